-- The items so far have values.
use Rattle.std.proofs.Common.{◌≡◌, take, None, vec_len, vec_capacity}
use Rattle.spindle.specs.Tries.{AreUpTo}
use Rattle.spindle.proofs.kernels.tries.try_each.Given as goal

abbrev pub invariant-loop-item : goal.invariant-loop-item
invariant-loop-item g l = AreUpTo (g.K.Kernel.computes l.kernel) (take l.item-index l.items) l.values.items None
    × (vec_len l.values ≡ l.item-index) × (vec_capacity l.values ≡ vec_capacity l.fn.values)
