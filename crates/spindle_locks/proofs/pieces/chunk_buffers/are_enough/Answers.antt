-- One buffer more is enough.
use Rattle.std.proofs.Common.{◌≤◌, ◌∷◌, ◌++◌, [], ℕ, take, sym, subst, ap, ◌∙◌, rules, arith}
use Rattle.std.proofs.lemmas.List.{take_more}
use Rattle.spindle_locks.specs.InPlace.{HaveCapacity}
use Rattle.spindle_locks.proofs.InPlace.{room_more}
use Rattle.spindle_locks.proofs.pieces.chunk_buffers.are_enough.Goals as goal

pub loop-buffer-init : goal.loop-buffer-init
unfolding HaveCapacity
loop-buffer-init g c = tt {0}

pub loop-buffer-preserved : goal.loop-buffer-preserved
loop-buffer-preserved g c = let xs = c.args.buffers.now in let i : ℕ = c.loop-buffer.buffer-index in let x = c.buffer-item.result in
    let enough : c.args.items ≤ x = search rules in
    subst (HaveCapacity c.args.items) (sym (take_more xs i x (omega arith) ∙ ap (λ r. take i xs ++ r ∷ []) (sym c.buffer-item.is)))
    (room_more c.args.items (take i xs) x c.loop-buffer.invariant enough)
