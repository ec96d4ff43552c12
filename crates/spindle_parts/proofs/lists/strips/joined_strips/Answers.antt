-- One strip more.
use Rattle.std.proofs.Common.{◌≡◌, ◌++◌, List, ap, sym, ◌∙◌, rules}
use Rattle.spindle_parts.proofs.StripLists.{items_snoc}
use Rattle.spindle_parts.proofs.lists.strips.joined_strips.Goals as goal

pub loop-strip-preserved : goal.loop-strip-preserved
loop-strip-preserved g c =
    let own : List g.row.T.Denot = c.in-Some.strip.items.items in
    let more : c.append.new.self.items ≡ c.loop-strip.items.items ++ own = search rules in
    more ∙ ap (λ l. l ++ own) c.loop-strip.invariant ∙ sym (items_snoc c.loop-strip.yielded c.in-Some.strip)
