-- The entries of the rows so far.
use Rattle.std.proofs.Common.{◌≡◌, map, take}
use Rattle.spindle_examples.specs.Product.{product}
use Rattle.spindle_examples.proofs.entries.filled.Given as goal

abbrev pub invariant-loop-row : goal.invariant-loop-row
invariant-loop-row l = l.entries.items ≡ product (map (λ row. row.items) (take l.row-index l.rows)) l.columns
