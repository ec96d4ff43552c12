use Rattle.std.proofs.Common.{rules}
use Rattle.spindle_rounds.proofs.threads.signals.HelperRequest.withdraw.Goals as goal

pub returns-clause-step : goal.returns-clause-step
returns-clause-step c = search rules

pub returns-clause-settled : goal.returns-clause-settled
returns-clause-settled c = search rules
