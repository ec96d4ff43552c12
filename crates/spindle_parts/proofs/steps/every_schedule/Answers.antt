-- The laws of every schedule.
use Rattle.spindle_parts.proofs.Schedules.{laws}
use Rattle.spindle_parts.proofs.steps.every_schedule.Goals as goal

pub returns : goal.returns
returns c threads calls some most ok = laws threads calls some ok
