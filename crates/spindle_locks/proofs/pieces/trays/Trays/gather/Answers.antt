-- No outputs answer no items, which are those before the first piece.
use Rattle.std.proofs.Common.{[], sym, subst, arith}
use Rattle.std.specs.List.{AllZip}
use Rattle.spindle_locks.proofs.PieceRuns.{before_first}
use Rattle.spindle_locks.proofs.pieces.trays.Trays.gather.Goals as goal

pub gather_rest-requires : goal.gather_rest-requires
gather_rest-requires g c = let p = c.args.pieces.now in let M = g.J.Job.meets in
    let before = subst (λ xs. AllZip M xs c.args.outputs.now.items) (sym (before_first p.items p.count))
    (subst (λ ys. AllZip M [] ys) (sym c.requires.empty) (tt {0})) in
    record { before = (omega arith, before, c.requires.room) }
