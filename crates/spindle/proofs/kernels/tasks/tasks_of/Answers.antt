-- One more task.
use Rattle.std.proofs.Common.{rules, ◌+◌, [], ◌∷◌, refl, ap, sym, ◌∙◌}
use Rattle.std.proofs.lemmas.List.{length-append}
use Rattle.spindle.specs.Kernels.{IsOfKernel}
use Rattle.spindle.proofs.KernelLists.{one_more}
use Rattle.spindle.proofs.kernels.tasks.tasks_of.Goals as goal

pub loop-part-preserved : goal.loop-part-preserved
loop-part-preserved g c = let l = c.loop-part in let i = l.invariant in
    let more = one_more (IsOfKernel c.args.kernel.now) l.tasks.items c.push_reserved.new.self.items
    (record { kernel = c.in_ok-kernel.kernel; part = c.in-Some.part }) (λ task. task.part)
    l.yielded c.in-Some.part (search rules) i.0 refl i.1 c.in_ok-kernel.ensures in
    (more.0, more.1, search rules, c.push_reserved.ensures.len ∙ ap (λ n. n + 1) i.3 ∙ sym (length-append l.yielded (c.in-Some.part ∷ [])))
