-- What was computed so far.
use Rattle.std.proofs.Common.{◌≡◌, take, vec_len, vec_capacity}
use Rattle.std.specs.List.{AllZip}
use Rattle.spindle.proofs.kernels.source.ListRunSource.compute_each.Given as goal

abbrev pub invariant-loop-item : goal.invariant-loop-item
invariant-loop-item g l = AllZip (g.K.Kernel.computes l.kernel) (take l.item-index l.items) l.outputs.items
    × (vec_len l.outputs ≡ l.item-index) × (vec_capacity l.outputs ≡ vec_capacity l.fn.outputs)
