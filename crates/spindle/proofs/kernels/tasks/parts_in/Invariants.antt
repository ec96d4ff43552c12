-- The parts so far.
use Rattle.std.proofs.Common.{◌≡◌, map}
use Rattle.spindle.proofs.kernels.tasks.parts_in.Given as goal

abbrev pub invariant-loop-task : goal.invariant-loop-task
invariant-loop-task g l = l.parts.items ≡ map (λ task. task.part) l.yielded
