-- One more piece.
use Rattle.std.proofs.Common.{rules, List}
use Rattle.spindle_parts.specs.declared.cut.Piece.{Piece}
use Rattle.spindle.specs.declared.kernels.tasks.Task.{Task}
use Rattle.spindle.proofs.KernelLists.{joined-behind}
use Rattle.spindle.proofs.kernels.updates.append_items.Goals as goal

pub loop-task-preserved : goal.loop-task-preserved
loop-task-preserved g c =
    let items : Task g.row.K.Denot (Piece g.row.T.Denot) → List g.row.T.Denot = λ task. task.part.items.items in
    let step = joined-behind items c.args.list.now.items c.loop-task.yielded c.in-Some.task c.loop-task.list.items c.loop-task.invariant in
    search rules
