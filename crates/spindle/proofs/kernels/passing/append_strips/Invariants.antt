-- The items so far.
use Rattle.std.proofs.Common.{◌≡◌, ◌++◌}
use Rattle.spindle_parts.specs.Strips.{items_of}
use Rattle.spindle.proofs.kernels.passing.append_strips.Given as goal

abbrev pub invariant-loop-strip : goal.invariant-loop-strip
invariant-loop-strip g l = l.list.items ≡ l.fn.list.items ++ items_of l.yielded
