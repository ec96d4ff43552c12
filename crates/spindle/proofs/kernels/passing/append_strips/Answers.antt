-- One more strip.
use Rattle.std.proofs.Common.{rules, List}
use Rattle.spindle_parts.specs.declared.lists.strips.Strip.{Strip}
use Rattle.spindle.proofs.KernelLists.{joined-behind}
use Rattle.spindle.proofs.kernels.passing.append_strips.Goals as goal

pub loop-strip-preserved : goal.loop-strip-preserved
loop-strip-preserved g c =
    let items : Strip g.row.V.Denot g.row.N.Denot → List g.row.V.Denot = λ strip. strip.items.items in
    let step = joined-behind items c.args.list.now.items c.loop-strip.yielded c.in-Some.strip c.loop-strip.list.items c.loop-strip.invariant in
    search rules
