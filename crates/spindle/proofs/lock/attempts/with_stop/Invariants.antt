-- The pieces so far.
use Rattle.std.proofs.Common.{◌≡◌, map, length, vec_len, vec_capacity}
use Rattle.std.specs.List.{All}
use Rattle.spindle.specs.Attempts.{IsSkipped}
use Rattle.spindle.proofs.lock.attempts.with_stop.Given as goal

abbrev pub invariant-loop-piece : goal.invariant-loop-piece
invariant-loop-piece g l = (map (λ attempt. attempt.items) l.attempts.items ≡ map (λ piece. piece.items) l.yielded)
    × All IsSkipped l.attempts.items × (vec_capacity l.attempts ≡ vec_len l.fn.pieces) × (vec_len l.attempts ≡ length l.yielded)
