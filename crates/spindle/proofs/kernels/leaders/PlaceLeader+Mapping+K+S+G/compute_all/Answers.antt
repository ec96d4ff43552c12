-- The parts are the source, and each has what the kernel computes of it.
use Rattle.std.proofs.Common.{◌≡◌, map, ap, subst, sym, ◌∙◌}
use Rattle.std.specs.List.{AllZip}
use Rattle.std.proofs.lemmas.Simd.{map-map}
use Rattle.spindle_parts.specs.Pieces.{joined}
use Rattle.spindle.proofs.KernelLists.{joined_tasks}
use Rattle.spindle.proofs.kernels.leaders.PlaceLeader+Mapping+K+S+G.compute_all.Goals as goal

pub returns-clause-answer : goal.returns-clause-answer
returns-clause-answer g c =
    let R = g.K.Kernel.computes in
    let kernel = c.args.kernel.now in
    let old = c.in_ok-tasks.tasks.items in
    let new = c.update_all.new.items.items in
    let items = g.S.Source.items in
    let whole : joined (map (λ task. items task.part.source) old) ≡ items c.args.source.now =
    ap joined (sym (map-map items (λ task. task.part.source) old) ∙ ap (map items) c.in_ok-tasks.ensures.parts) ∙ c.in_ok-parts.ensures.joined in
    let mapped : AllZip (R kernel) (joined (map (λ task. items task.part.source) old)) (joined (map (λ task. task.part.outputs.items) new)) =
    joined_tasks R kernel (λ task. task.kernel) (λ task. items task.part.source)
    (λ task. task.part.outputs.items) old new c.in_ok-tasks.ensures.kernel c.in_ok-update_all.ensures.updated in
    subst (λ t. AllZip (R kernel) t (joined (map (λ task. task.part.outputs.items) new))) whole mapped
