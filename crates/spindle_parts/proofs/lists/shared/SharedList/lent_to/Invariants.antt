-- The items so far, each with the list.
use Rattle.std.proofs.Common.{◌≡◌, map}
use Rattle.spindle_parts.proofs.lists.shared.SharedList.lent_to.Given as goal

abbrev pub invariant-loop-item : goal.invariant-loop-item
invariant-loop-item g l = l.lent.items ≡ map (λ item. (item, l.self)) l.yielded
