use Rattle.std.proofs.Common.{rules, ap}
use Rattle.spindle_rounds.proofs.RoundClients.{finish_done}
use Rattle.spindle_rounds.proofs.round.claim.Round+Bare.finish.Goals as goal

pub returns-clause-step : goal.returns-clause-step
returns-clause-step g c = search rules

pub returns-clause-finished : goal.returns-clause-finished
returns-clause-finished g c = finish_done _ _ _ (ap (λ m. m.0) (returns-clause-step g c))
