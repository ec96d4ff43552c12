use Rattle.std.proofs.Common.{rules}
use Rattle.spindle_rounds.proofs.round.Round+Bare.new.Goals as goal

pub returns-clause-opened : goal.returns-clause-opened
returns-clause-opened c = search rules
