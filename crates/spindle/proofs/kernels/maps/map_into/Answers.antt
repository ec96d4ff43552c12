-- The pieces are what was computed of each.
use Rattle.std.proofs.Common.{◌≡◌, rules, map, subst, sym}
use Rattle.std.specs.List.{AllZip}
use Rattle.std.proofs.lemmas.List.{take_all}
use Rattle.spindle_parts.specs.Pieces.{joined}
use Rattle.spindle.proofs.kernels.maps.map_into.Goals as goal

pub returns-clause-answer : goal.returns-clause-answer
returns-clause-answer g c =
    let R = g.K.Kernel.computes c.args.kernel.now in
    let whole : c.in_ok-whole.whole ≡ c.args.list.items = search (rules, take_all) in
    let same : map (λ piece. piece.items) c.take_outputs.new.pieces.items ≡ map (λ task. task.part.outputs.items) c.in_ok-tasks.tasks.items = search rules in
    subst (λ t. AllZip R c.args.list.items (joined t)) (sym same)
    (subst (λ t. AllZip R t (joined (map (λ task. task.part.outputs.items) c.in_ok-tasks.tasks.items))) whole c.in_ok-tasks.ensures.answer)
