-- Calls over whole lists.
use Rattle.std.specs.Prelude.{◌≡◌}
use Rattle.spindle.specs.declared.kernels.tasks.Task.{Task}

-- its kernel is this
abbrev pub IsOfKernel : {K P : Type 0} → K → Task K P → Type 0
IsOfKernel kernel task = task.kernel ≡ kernel
