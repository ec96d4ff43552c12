-- One value more, or the first failure.
use Rattle.std.proofs.Common.{rules, arith, subst}
use Rattle.spindle.proofs.TryLists.{up_to_next, up_to_here}
use Rattle.spindle.proofs.kernels.tries.try_each.Goals as goal

pub loop-item-preserved : goal.loop-item-preserved
loop-item-preserved g c =
    let R = g.K.Kernel.computes c.args.kernel.now in
    let one = subst (R c.item-item.result) c.in-Ok.is c.compute.ensures in
    let step = up_to_next R c.args.items.now c.loop-item.item-index c.item-item.result c.in-Ok.value
    c.loop-item.values.items (omega arith) c.item-item.is c.loop-item.invariant.0 one in
    search rules

pub returns-in-Err-clause-values : goal.returns-in-Err-clause-values
returns-in-Err-clause-values g c =
    let R = g.K.Kernel.computes c.args.kernel.now in
    let failed = subst (R c.item-item.result) c.in-Err.is c.compute.ensures in
    up_to_here R c.args.items.now c.loop-item.item-index c.item-item.result c.in-Err.failure
    c.loop-item.values.items (omega arith) c.item-item.is c.loop-item.invariant.0 failed
