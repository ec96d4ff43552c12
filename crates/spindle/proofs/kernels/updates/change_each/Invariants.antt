-- The items so far are changed, and the others stand as they did.
use Rattle.std.proofs.Common.{◌≡◌, take, drop}
use Rattle.std.specs.List.{AllZip}
use Rattle.spindle.proofs.kernels.updates.change_each.Given as goal

abbrev pub invariant-loop-item : goal.invariant-loop-item
invariant-loop-item g l = AllZip (g.K.Change.changes l.kernel) (take l.item-index l.fn.items.items) (take l.item-index l.item-items)
    × (drop l.item-index l.item-items ≡ drop l.item-index l.fn.items.items)
