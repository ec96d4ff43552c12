-- The sum so far.
use Rattle.std.proofs.Common.{◌≡◌, sum, take}
use Rattle.spindle_examples.specs.Wrapping.{wrapped}
use Rattle.spindle_examples.proofs.sums.total.Given as goal

abbrev pub invariant-loop-value : goal.invariant-loop-value
invariant-loop-value l = l.total ≡ wrapped (sum (take l.value-index l.values))
