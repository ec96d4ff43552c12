-- The two halves of the answers were walked in step.
use Rattle.std.proofs.Common.{◌∙◌, ◌/◌, length, take, drop, map, ap, sym, rules}
use Rattle.std.proofs.lemmas.Iterator.{YieldsList-from_zip, items_from_drains}
use Rattle.std.proofs.lemmas.Iterator.Adapters.{YieldsList-from_vec}
use Rattle.std.proofs.lemmas.List.{map-id}
use Rattle.spindle.specs.Divisions.{joined_at}
use Rattle.spindle.proofs.kernels.dividing.closed.Goals as goal

pub returns : goal.returns
returns g c =
    let answers = c.args.answers.items in
    let count = length answers / 2 in
    let road = YieldsList-from_zip (YieldsList-from_vec (take count answers) (search rules) (search rules))
    (YieldsList-from_vec (drop count answers) (search rules) (search rules)) in
    let walked = items_from_drains c.loop-first.yielded (c.loop-first.first-iterator, c.loop-first.yielded_by, λ _. (c.next.new.self, c.in-None.ensures.steps)) road in
    c.loop-first.invariant ∙ ap (map joined_at) (sym (map-id c.loop-first.yielded) ∙ walked)
