-- One more item.
use Rattle.std.proofs.Common.{arith, subst, sym}
use Rattle.spindle.proofs.KernelLists.{changed_next}
use Rattle.spindle.proofs.kernels.updates.change_each.Goals as goal

pub loop-item-preserved : goal.loop-item-preserved
loop-item-preserved g c =
    let R : g.row.K-Item.Denot → g.row.K-Item.Denot → Type 0 = g.K.Change.changes c.args.kernel.now in
    let changed : R c.item-item.result c.change.new.item = subst (λ x. R x c.change.new.item) (sym c.item-item.is) c.change.ensures in
    changed_next R c.args.items.now.items c.loop-item.item-items c.loop-item.item-index c.item-item.result c.change.new.item (omega arith)
    c.item-item.is c.loop-item.invariant.0 c.loop-item.invariant.1 changed
