-- The store of a stop keeps the table's rule.
use Rattle.std.proofs.Common.{rules, arith}
use Rattle.spindle_rounds.proofs.RoundMoves.{kept}
use Rattle.spindle_rounds.proofs.KeptStops.{halts}
use Rattle.spindle_rounds.proofs.round.Round.stop.Goals as goal

pub store-requires : goal.store-requires
store-requires g c = (search rules, omega arith, kept (halts g.D.SlotContents.discipline g.met.D.SlotContents.lawful _ _ _ _ _ c.requires.own))
