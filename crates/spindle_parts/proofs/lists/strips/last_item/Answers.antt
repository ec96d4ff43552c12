-- The last item is a read.
use Rattle.std.proofs.Common.{ap, ◌∙◌, arith, ◌≡◌, ◌-◌, length, get_or}
use Rattle.spindle_parts.proofs.StripLists.{last_is}
use Rattle.spindle_parts.proofs.lists.strips.last_item.Goals as goal

pub returns : goal.returns
returns g c =
    let last : c.saturating_sub.result ≡ length c.args.items.now - 1 = omega (arith, c.saturating_sub.ensures) in
    c.item_at.ensures ∙ ap (λ at. get_or c.args.items.now at c.args.before) last ∙ last_is c.args.before c.args.items.now
