-- The items so far have the chunks so far.
use Rattle.std.proofs.Common.{◌≡◌, map}
use Rattle.spindle_commands.proofs.grid.items.Given as goal

abbrev pub invariant-loop-chunk : goal.invariant-loop-chunk
invariant-loop-chunk l = map (λ item. item.0) l.items.items ≡ l.yielded
