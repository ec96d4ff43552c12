-- The totals so far as one.
use Rattle.std.proofs.Common.{◌≡◌, map}
use Rattle.std.specs.Prelude.{fold}
use Rattle.spindle.proofs.lock.folds.combined.Given as goal

abbrev pub invariant-loop-part : goal.invariant-loop-part
invariant-loop-part g l = l.all ≡ fold g.C.Combine.combine g.C.Combine.neutral (map (λ part. part.total) l.yielded)
