-- The strips so far have no items.
use Rattle.std.proofs.Common.{◌≡◌, drop}
use Rattle.spindle_parts.specs.Strips.{first_of, items_of}
use Rattle.spindle_parts.proofs.lists.strips.first_item.Given as goal

abbrev pub invariant-loop-at : goal.invariant-loop-at
invariant-loop-at g l = first_of (items_of (drop l.from l.strips)) l.behind ≡ first_of (items_of (drop l.at l.strips)) l.behind
