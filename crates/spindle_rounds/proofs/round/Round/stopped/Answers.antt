-- The load of the word `stopped` keeps the table's rule.
use Rattle.std.proofs.Common.{rules, arith}
use Rattle.spindle_rounds.proofs.RoundMoves.{kept}
use Rattle.spindle_rounds.proofs.KeptStops.{sees}
use Rattle.spindle_rounds.proofs.round.Round.stopped.Goals as goal

pub load-requires : goal.load-requires
load-requires g c = (search rules, omega arith, kept (sees g.D.SlotContents.discipline g.met.D.SlotContents.lawful _ _ _ _ c.requires.inside))
