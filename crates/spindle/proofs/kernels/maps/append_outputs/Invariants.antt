-- The outputs so far.
use Rattle.std.proofs.Common.{◌≡◌, ◌++◌, map}
use Rattle.spindle_parts.specs.Pieces.{joined}
use Rattle.spindle.proofs.kernels.maps.append_outputs.Given as goal

abbrev pub invariant-loop-task : goal.invariant-loop-task
invariant-loop-task g l = l.all.items ≡ l.fn.all.items ++ joined (map (λ task. task.part.outputs.items) l.yielded)
