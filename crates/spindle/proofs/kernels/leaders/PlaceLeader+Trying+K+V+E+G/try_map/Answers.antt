-- The runs are the list, and each was tried by the kernel.
use Rattle.std.proofs.Common.{◌≡◌, map, ap, subst, sym, ◌∙◌}
use Rattle.spindle_parts.specs.Pieces.{joined}
use Rattle.spindle.specs.Tries.{IsTried}
use Rattle.spindle.proofs.TryLists.{tried_by, same_parts}
use Rattle.spindle.proofs.kernels.leaders.PlaceLeader+Trying+K+V+E+G.try_map.Goals as goal

pub gathered_trials-requires-clause-tried : goal.gathered_trials-requires-clause-tried
gathered_trials-requires-clause-tried g c =
    (tried_by g.K.Kernel.computes c.args.kernel.now (λ task. task.kernel) (λ task. task.part.run) (λ task. task.part.values.items)
    (λ task. task.part.failure) c.in_ok-tasks.tasks.items c.update_all.new.items.items c.in_ok-tasks.ensures.kernel
    c.in_ok-update_all.ensures.updated).0

pub returns-clause-answer : goal.returns-clause-answer
returns-clause-answer g c =
    let R = g.K.Kernel.computes c.args.kernel.now in
    let old = c.in_ok-tasks.tasks.items in let new = c.update_all.new.items.items in
    let tried = tried_by g.K.Kernel.computes c.args.kernel.now (λ task. task.kernel) (λ task. task.part.run) (λ task. task.part.values.items)
    (λ task. task.part.failure) old new c.in_ok-tasks.ensures.kernel c.in_ok-update_all.ensures.updated in
    let whole : joined (map (λ task. task.part.run) new) ≡ c.args.run.now =
    ap joined (tried.1 ∙ c.in_ok-tasks.ensures.runs ∙ sym (same_parts c.in_ok-parts_of.field-0.items)) ∙ c.in_ok-parts_of.ensures.joined in
    subst (λ items. IsTried R items c.in_ok-tried.tried) whole c.in_ok-tried.ensures
