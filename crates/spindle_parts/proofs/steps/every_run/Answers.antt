-- The laws of every run.
use Rattle.spindle_parts.proofs.Waiting.{lawful}
use Rattle.spindle_parts.proofs.steps.every_run.Goals as goal

pub returns : goal.returns
returns c es run = lawful es run
