-- The runs so far have values.
use Rattle.std.proofs.Common.{map, None}
use Rattle.spindle_parts.specs.Pieces.{joined}
use Rattle.spindle.specs.Tries.{AreUpTo}
use Rattle.spindle.proofs.kernels.tries.gathered_trials.Given as goal

abbrev pub invariant-loop-task : goal.invariant-loop-task
invariant-loop-task g l = AreUpTo (g.K.Kernel.computes l._kernel) (joined (map (λ task. task.part.run) l.yielded)) l.values.items None
