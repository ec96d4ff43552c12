-- The pieces so far, with room for the others.
use Rattle.std.proofs.Common.{◌≡◌, ◌≤◌, map, length, vec_len, vec_capacity}
use Rattle.spindle.proofs.kernels.maps.take_outputs.Given as goal

abbrev pub invariant-loop-task : goal.invariant-loop-task
invariant-loop-task g l = (map (λ piece. piece.items) l.pieces.items ≡ map (λ task. task.part.outputs.items) l.yielded)
    × (vec_len l.fn.tasks ≤ vec_capacity l.pieces) × (vec_len l.pieces ≡ length l.yielded)
