use Rattle.std.proofs.Common.{rules}
use Rattle.spindle_rounds.proofs.round.claimer.Claimer.is_last.Goals as goal

pub returns : goal.returns
returns g c = search rules
