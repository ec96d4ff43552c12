-- What was computed so far.
use Rattle.std.proofs.Common.{◌≡◌, take, vec_len, vec_capacity}
use Rattle.std.specs.List.{AllZip, zip}
use Rattle.spindle.proofs.kernels.pairs.PairRunSource.compute_each.Given as goal

abbrev pub invariant-loop-i : goal.invariant-loop-i
invariant-loop-i g l = AllZip (g.K.Kernel.computes l.kernel) (take l.i (zip l.first l.second)) l.outputs.items
    × (vec_len l.outputs ≡ l.i) × (vec_capacity l.outputs ≡ vec_capacity l.fn.outputs)
