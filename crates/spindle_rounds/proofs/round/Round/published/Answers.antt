-- A load of the published word keeps the table's rule.
use Rattle.std.proofs.Common.{rules, arith}
use Rattle.spindle_rounds.proofs.RoundMoves.{kept}
use Rattle.spindle_rounds.proofs.KeptLoads.{learns}
use Rattle.spindle_rounds.proofs.round.Round.published.Goals as goal

pub load-requires : goal.load-requires
load-requires g c = (search rules, omega arith, kept (learns g.D.SlotContents.discipline g.met.D.SlotContents.lawful _ _ _ _))
