-- The strips are the list, and the passes went over them.
use Rattle.std.proofs.Common.{◌≡◌, List, rules, ap, subst, sym, ◌∙◌}
use Rattle.spindle_parts.specs.Pieces.{joined}
use Rattle.spindle_parts.specs.Strips.{items_of}
use Rattle.spindle.specs.Passes.{HavePassed}
use Rattle.spindle.proofs.kernels.leaders.PlaceLeader+Passing+K+G.passes_until.Goals as goal

pub returns-clause-answer : goal.returns-clause-answer
returns-clause-answer g c =
    let f = g.K.Stencil.becomes c.args.kernel.now in let s = g.K.Stencil.settles c.args.kernel.now in
    let ended = c.in_ok-ended.ended in
    let start : List g.row.K-Value.Denot = items_of c.in_ok-strips.strips.items in
    let new : List g.row.K-Value.Denot = items_of c.play_passes.new.strips.items in
    let whole : start ≡ c.args.list.items = ap joined c.in_ok-strips.ensures.items ∙ c.in_ok-cut.ensures.joined in
    let values : c.append_strips.new.list.items ≡ new = search rules in
    let passed = c.in_ok-ended.ensures.passed c.args.kernel.now c.in_ok-strips.ensures.kernel in
    subst (λ l. HavePassed f s c.args.edge c.args.most c.args.list.items ended.0 ended.1 l) (sym values)
    (subst (λ l. HavePassed f s c.args.edge c.args.most l ended.0 ended.1 new) whole passed)
