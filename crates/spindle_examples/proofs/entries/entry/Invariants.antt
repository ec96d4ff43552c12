-- The places so far.
use Rattle.std.proofs.Common.{◌≡◌, take}
use Rattle.spindle_examples.specs.Product.{dot}
use Rattle.spindle_examples.specs.Wrapping.{wrapped}
use Rattle.spindle_examples.proofs.entries.entry.Given as goal

abbrev pub invariant-loop-at : goal.invariant-loop-at
invariant-loop-at l = l.sum ≡ wrapped (dot (take l.at l.row) (take l.at l.column))
