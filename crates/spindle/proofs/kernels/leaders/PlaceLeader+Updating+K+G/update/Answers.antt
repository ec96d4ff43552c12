-- The pieces are the list, and the kernel has changed each.
use Rattle.std.proofs.Common.{◌≡◌, rules, map, ap, subst, sym, ◌∙◌}
use Rattle.std.specs.List.{AllZip}
use Rattle.std.proofs.lemmas.Simd.{map-map}
use Rattle.spindle_parts.specs.Pieces.{joined}
use Rattle.spindle.proofs.KernelLists.{joined_tasks}
use Rattle.spindle.proofs.kernels.leaders.PlaceLeader+Updating+K+G.update.Goals as goal

pub returns-clause-answer : goal.returns-clause-answer
returns-clause-answer g c =
    let R = g.K.Change.changes in
    let kernel = c.args.kernel.now in
    let old = c.in_ok-tasks.tasks.items in
    let new = c.update_all.new.items.items in
    let whole : joined (map (λ task. task.part.items.items) old) ≡ c.args.list.items =
    ap joined (sym (map-map (λ piece. piece.items.items) (λ task. task.part) old) ∙ ap (map (λ piece. piece.items.items)) c.in_ok-tasks.ensures.parts)
    ∙ c.in_ok-cut.ensures.joined in
    let changed : AllZip (R kernel) (joined (map (λ task. task.part.items.items) old)) (joined (map (λ task. task.part.items.items) new)) =
    joined_tasks R kernel (λ task. task.kernel) (λ task. task.part.items.items) (λ task. task.part.items.items) old new c.in_ok-tasks.ensures.kernel
    c.in_ok-update_all.ensures.updated in
    let items : c.append_items.new.list.items ≡ joined (map (λ task. task.part.items.items) new) = search rules in
    subst (λ t. AllZip (R kernel) c.args.list.items t) (sym items)
    (subst (λ t. AllZip (R kernel) t (joined (map (λ task. task.part.items.items) new))) whole changed)
