-- The entries of the first columns are added.
use Rattle.std.proofs.Common.{◌≡◌, ◌*◌, ◌++◌, map, drop, length}
use Rattle.spindle.specs.Pieces.{counted}
use Rattle.spindle_examples.specs.Product.{dot}
use Rattle.spindle_examples.specs.Wrapping.{wrapped}
use Rattle.spindle_examples.proofs.entries.add_row.Given as goal

abbrev pub invariant-loop-at : goal.invariant-loop-at
invariant-loop-at l =
    l.entries.items ≡ l.fn.entries.items ++ map (λ at. wrapped (dot l.row (drop (length l.row * at) l.columns))) (counted 0 l.at)
