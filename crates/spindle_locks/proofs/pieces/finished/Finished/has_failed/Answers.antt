-- Its outputs are those that stand in its list.
use Rattle.std.proofs.Common.{Any, subst, ap, ◌∙◌}
use Rattle.spindle_locks.proofs.pieces.finished.Finished.has_failed.Goals as goal

pub returns : goal.returns
returns g c = λ failed. subst (Any g.J.Job.fails) (c.as_slice.ensures.value ∙ ap (λ done. done.outputs) c.self.view_is) (c.has_failure.ensures failed)
