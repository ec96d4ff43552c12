-- One more item.
use Rattle.std.proofs.Common.{sym, arith}
use Rattle.std.proofs.lemmas.List.Sums.{fold_more}
use Rattle.spindle.proofs.kernels.source.ListRunSource.total.Goals as goal

pub loop-item-preserved : goal.loop-item-preserved
loop-item-preserved g c =
    let items = c.as_slice-items.result.now in
    let x = c.item-item.result in
    let more = fold_more (λ total item. g.C.Combine.combine total (g.C.Combine.of item)) g.C.Combine.neutral items c.loop-item.item-index x (omega arith) in
    let here = rw (← c.item-item.is) at more in
    rw (c.combine-total.ensures, c.of.ensures, c.loop-item.invariant) (sym here)
