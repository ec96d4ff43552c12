-- One more item.
use Rattle.std.proofs.Common.{rules, arith}
use Rattle.spindle.proofs.KernelLists.{AllZip-next}
use Rattle.spindle.proofs.kernels.source.ListRunSource.compute_each.Goals as goal

pub loop-item-preserved : goal.loop-item-preserved
loop-item-preserved g c =
    let step = AllZip-next (g.K.Kernel.computes c.args.kernel.now) c.as_slice-items.result.now c.loop-item.item-index c.item-item.result c.compute.result
    c.loop-item.outputs.items (omega arith) c.item-item.is c.loop-item.invariant.0 c.compute.ensures in
    search rules
