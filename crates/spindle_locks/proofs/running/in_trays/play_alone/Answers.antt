-- After the last piece all items are answered.
use Rattle.std.proofs.Common.{arith}
use Rattle.spindle_locks.proofs.PieceRuns.{answered_all}
use Rattle.spindle_locks.proofs.running.in_trays.play_alone.Goals as goal

pub returns-clause-answered : goal.returns-clause-answered
returns-clause-answered g c = let p = c.args.pieces.now in
    answered_all g.J.Job.meets p.items p.count c.loop-number.number c.loop-number.outputs p.some (omega arith) c.loop-number.invariant
