-- Stops: which one stands for a refusal of the library, and the exit statuses.
use Rattle.std.specs.Prelude.{ℕ}
use Rattle.spindle_parts.specs.declared.fault.Fault.{Fault}
use Rattle.spindle_parts.specs.declared.fault.Fault.TheVariants as fault
use Rattle.spindle_commands.specs.declared.stop.Stop.{Stop}
use Rattle.spindle_commands.specs.declared.stop.Stop.TheVariants.{Words, Line, Memory, Lost, Input, Output}

-- the stop of the same name
abbrev pub stop_for : Fault → Stop
stop_for fault.Memory = Memory
stop_for (fault.Lost number) = Lost number

-- 2 for what a user wrote, 1 for what failed
abbrev pub status_of : Stop → ℕ
status_of Words = 2
status_of (Line number) = 2
status_of Memory = 1
status_of (Lost number) = 1
status_of Input = 1
status_of Output = 1
