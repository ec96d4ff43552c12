-- The total of the items so far.
use Rattle.std.proofs.Common.{◌≡◌, take}
use Rattle.spindle.specs.Folds.{total_of}
use Rattle.spindle.proofs.kernels.source.ListRunSource.total.Given as goal

abbrev pub invariant-loop-item : goal.invariant-loop-item
invariant-loop-item g l = l.total ≡ total_of g.C.Combine.combine g.C.Combine.neutral g.C.Combine.of (take l.item-index l.items)
