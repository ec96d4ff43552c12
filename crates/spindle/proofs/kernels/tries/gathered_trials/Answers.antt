-- One more run that has no failure; or the first that has one.
use Rattle.std.proofs.Common.{◌≡◌, rules, List, ◌++◌, ◌∷◌, Option, Some, None, ap, subst, sym, ◌∙◌, All, map}
use Rattle.std.specs.Vec.Iter.{into_iter_items}
use Rattle.std.proofs.lemmas.Iterator.Adapters.{YieldsList-from_vec}
use Rattle.std.proofs.lemmas.Iterator.Consumers.{YieldsList-end}
use Rattle.spindle_parts.proofs.GatheredLists.{yielded_items}
use Rattle.spindle_parts.specs.Pieces.{joined}
use Rattle.spindle.specs.Tries.{AreUpTo}
use Rattle.spindle.specs.declared.kernels.tries.Trial.{Trial}
use Rattle.spindle.specs.declared.kernels.tasks.Task.{Task}
use Rattle.spindle.proofs.TryLists.{next_trial, one_trial_more, first_trial_failed, all_have_values, same_parts}
use Rattle.spindle.proofs.kernels.tries.gathered_trials.Goals as goal

pub loop-task-preserved : goal.loop-task-preserved
loop-task-preserved g c =
    let R = g.K.Kernel.computes c.args._kernel.now in
    let T : Type 0 = Task g.row.K.Denot (Trial g.row.K-In.Denot g.row.V.Denot g.row.E.Denot) in
    let run : T → List g.row.K-In.Denot = λ task. task.part.run in
    let values : T → List g.row.V.Denot = λ task. task.part.values.items in
    let failure : T → Option g.row.E.Denot = λ task. task.part.failure in
    let before : List T = c.loop-task.yielded in
    let later : List T = into_iter_items c.next.new.self in
    let task : T = c.in-Some.task in
    let next = rw (c.in-Some.is) at c.next.ensures.steps in
    let whole : c.args.tasks.items ≡ before ++ task ∷ later =
    sym c.into_iter-task-iterator.ensures.into_iter_gives.0 ∙ yielded_items before _ _ c.loop-task.yielded_by ∙ ap (λ l. before ++ l) next.0 in
    let here = next_trial R run values failure before later task
    (subst (All (λ task. AreUpTo R (run task) (values task) (failure task))) whole c.requires.tried) in
    let none : failure task ≡ None = search rules in
    let more : c.append_list.new.all.items ≡ c.loop-task.values.items ++ values task = search rules in
    rw more (one_trial_more R run values failure before task c.loop-task.values.items c.loop-task.invariant here none)

pub returns-in-Some-failure : goal.returns-in-Some-failure
returns-in-Some-failure g c =
    let R = g.K.Kernel.computes c.args._kernel.now in
    let T : Type 0 = Task g.row.K.Denot (Trial g.row.K-In.Denot g.row.V.Denot g.row.E.Denot) in
    let run : T → List g.row.K-In.Denot = λ task. task.part.run in
    let values : T → List g.row.V.Denot = λ task. task.part.values.items in
    let failure : T → Option g.row.E.Denot = λ task. task.part.failure in
    let before : List T = c.loop-task.yielded in
    let later : List T = into_iter_items c.next.new.self in
    let task : T = c.in-Some.task in
    let e : g.row.E.Denot = c.in-Some-failure.failure in
    let next = rw (c.in-Some.is) at c.next.ensures.steps in
    let whole : c.args.tasks.items ≡ before ++ task ∷ later =
    sym c.into_iter-task-iterator.ensures.into_iter_gives.0 ∙ yielded_items before _ _ c.loop-task.yielded_by ∙ ap (λ l. before ++ l) next.0 in
    let here = next_trial R run values failure before later task
    (subst (All (λ task. AreUpTo R (run task) (values task) (failure task))) whole c.requires.tried) in
    let failed : failure task ≡ Some e = search rules in
    let more : c.append_list.new.all.items ≡ c.loop-task.values.items ++ values task = search rules in
    let all = first_trial_failed R run values failure before later task e c.loop-task.values.items c.loop-task.invariant here failed in (
      search rules,
      subst (λ items. AreUpTo R (joined (map run items)) c.append_list.new.all.items (Some e)) (sym whole)
          (subst (λ l. AreUpTo R (joined (map run (before ++ task ∷ later))) l (Some e)) (sym more) all),
    )

pub returns : goal.returns
returns g c =
    let R = g.K.Kernel.computes c.args._kernel.now in
    let tasks = c.args.tasks.items in
    let given = c.into_iter-task-iterator.ensures.into_iter_gives in
    let end = YieldsList-end (YieldsList-from_vec tasks given.0 (search rules)) c.loop-task.yielded c.loop-task.task-iterator
    c.loop-task.yielded_by c.next.result c.next.new.self c.in-None.is c.next.ensures.steps in
    let whole : c.loop-task.yielded ≡ tasks = sym (same_parts c.loop-task.yielded) ∙ end.0 in
    all_have_values R _ c.loop-task.values.items
    (subst (λ tasks. AreUpTo R (joined (map (λ task. task.part.run) tasks)) c.loop-task.values.items None) whole c.loop-task.invariant)
