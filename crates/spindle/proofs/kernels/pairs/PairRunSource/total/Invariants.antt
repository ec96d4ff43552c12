-- The total of the pairs so far.
use Rattle.std.proofs.Common.{◌≡◌, take}
use Rattle.std.specs.List.{zip}
use Rattle.spindle.specs.Folds.{total_of}
use Rattle.spindle.proofs.kernels.pairs.PairRunSource.total.Given as goal

abbrev pub invariant-loop-i : goal.invariant-loop-i
invariant-loop-i g l = l.total ≡ total_of g.C.Combine.combine g.C.Combine.neutral g.C.Combine.of (take l.i (zip l.first l.second))
