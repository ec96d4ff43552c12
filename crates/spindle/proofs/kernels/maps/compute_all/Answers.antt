-- The parts are the list, and each has what the kernel computes of it.
use Rattle.std.proofs.Common.{◌≡◌, map, ap, subst, sym, ◌∙◌}
use Rattle.std.specs.List.{AllZip}
use Rattle.std.proofs.lemmas.Simd.{map-map}
use Rattle.spindle_parts.specs.Pieces.{joined}
use Rattle.spindle.proofs.KernelLists.{joined_tasks}
use Rattle.spindle.proofs.kernels.maps.compute_all.Goals as goal

pub returns-clause-answer : goal.returns-clause-answer
returns-clause-answer g c =
    let R = g.K.Kernel.computes in
    let old = c.in_ok-tasks.tasks.items in
    let new = c.in_ok-tasks-2.tasks.items in
    let items = g.S.Source.items in
    let whole : joined (map (λ task. items task.part.source) old) ≡ items c.args.source.now =
    ap joined (sym (map-map items (λ task. task.part.source) old) ∙ ap (map items) c.in_ok-tasks.ensures.parts) ∙ c.in_ok-parts.ensures.joined in
    let mapped : AllZip (R c.args.kernel.now) (joined (map (λ task. items task.part.source) old)) (joined (map (λ task. task.part.outputs.items) new)) =
    joined_tasks (λ kernel. R kernel.now) c.args.kernel (λ task. task.kernel) (λ task. items task.part.source)
    (λ task. task.part.outputs.items) old new c.in_ok-tasks.ensures.kernel c.in_ok-tasks-2.ensures.updated in
    subst (λ t. AllZip (R c.args.kernel.now) t (joined (map (λ task. task.part.outputs.items) new))) whole mapped
