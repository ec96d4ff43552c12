-- The items of the strips so far.
use Rattle.std.proofs.Common.{◌≡◌}
use Rattle.spindle_parts.specs.Strips.{items_of}
use Rattle.spindle_parts.proofs.lists.strips.joined_strips.Given as goal

abbrev pub invariant-loop-strip : goal.invariant-loop-strip
invariant-loop-strip g l = l.items.items ≡ items_of l.yielded
