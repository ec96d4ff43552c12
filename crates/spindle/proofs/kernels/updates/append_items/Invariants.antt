-- The items so far.
use Rattle.std.proofs.Common.{◌≡◌, ◌++◌, map}
use Rattle.spindle_parts.specs.Pieces.{joined}
use Rattle.spindle.proofs.kernels.updates.append_items.Given as goal

abbrev pub invariant-loop-task : goal.invariant-loop-task
invariant-loop-task g l = l.list.items ≡ l.fn.list.items ++ joined (map (λ task. task.part.items.items) l.yielded)
