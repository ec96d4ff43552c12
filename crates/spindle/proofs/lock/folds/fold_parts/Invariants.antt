-- The pieces so far.
use Rattle.std.proofs.Common.{◌≡◌, map, length, vec_len, vec_capacity}
use Rattle.spindle.proofs.lock.folds.fold_parts.Given as goal

abbrev pub invariant-loop-source : goal.invariant-loop-source
invariant-loop-source g l = (map (λ part. part.source) l.parts.items ≡ l.yielded)
    × (vec_capacity l.parts ≡ vec_len l.fn.sources) × (vec_len l.parts ≡ length l.yielded)
