-- The strips so far.
use Rattle.std.proofs.Common.{◌≡◌, map, All, length, vec_len, vec_capacity}
use Rattle.spindle.specs.Passes.{IsNotedBy}
use Rattle.spindle.proofs.kernels.passing.strips_of.Given as goal

abbrev pub invariant-loop-piece : goal.invariant-loop-piece
invariant-loop-piece g l = (map (λ strip. strip.items.items) l.strips.items ≡ map (λ piece. piece.items.items) l.yielded)
    × All (IsNotedBy l.kernel) l.strips.items
    × (vec_capacity l.strips ≡ vec_len l.fn.pieces) × (vec_len l.strips ≡ length l.yielded)
