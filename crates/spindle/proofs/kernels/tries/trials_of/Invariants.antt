-- The tasks so far.
use Rattle.std.proofs.Common.{◌≡◌, map, All, length, vec_len, vec_capacity}
use Rattle.spindle.specs.Kernels.{IsOfKernel}
use Rattle.spindle.proofs.kernels.tries.trials_of.Given as goal

abbrev pub invariant-loop-run : goal.invariant-loop-run
invariant-loop-run g l = (map (λ task. task.part.run) l.tasks.items ≡ l.yielded) × All (IsOfKernel l.kernel) l.tasks.items
    × (vec_capacity l.tasks ≡ vec_len l.fn.runs) × (vec_len l.tasks ≡ length l.yielded)
