use Rattle.std.proofs.Common.{arith}
use Rattle.spindle_rounds.proofs.threads.signals.Signals.ask.Goals as goal

pub returns-clause-helpers : goal.returns-clause-helpers
returns-clause-helpers c = omega arith
