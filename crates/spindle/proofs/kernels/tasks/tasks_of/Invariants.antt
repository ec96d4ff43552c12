-- The tasks so far.
use Rattle.std.proofs.Common.{◌≡◌, map, All, length, vec_len, vec_capacity}
use Rattle.spindle.specs.Kernels.{IsOfKernel}
use Rattle.spindle.proofs.kernels.tasks.tasks_of.Given as goal

abbrev pub invariant-loop-part : goal.invariant-loop-part
invariant-loop-part g l = (map (λ task. task.part) l.tasks.items ≡ l.yielded) × All (IsOfKernel l.kernel) l.tasks.items
    × (vec_capacity l.tasks ≡ vec_len l.fn.parts) × (vec_len l.tasks ≡ length l.yielded)
