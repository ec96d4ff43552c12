-- One more piece.
use Rattle.std.proofs.Common.{rules, List}
use Rattle.spindle.specs.declared.kernels.maps.Run.{Run}
use Rattle.spindle.specs.declared.kernels.tasks.Task.{Task}
use Rattle.spindle.proofs.KernelLists.{joined-behind}
use Rattle.spindle.proofs.kernels.maps.append_outputs.Goals as goal

pub loop-task-preserved : goal.loop-task-preserved
loop-task-preserved g c =
    let outputs : Task g.row.K.Denot (Run g.row.S.Denot g.row.U.Denot g.row.S-Item.Denot g.S.Source) → List g.row.U.Denot = λ task. task.part.outputs.items in
    let step = joined-behind outputs c.args.all.now.items c.loop-task.yielded c.in-Some.task c.loop-task.all.items c.loop-task.invariant in
    search rules
