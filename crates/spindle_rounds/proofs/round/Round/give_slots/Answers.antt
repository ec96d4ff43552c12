-- A load with which the leader's slots go back keeps the table's rule.
use Rattle.std.proofs.Common.{rules, arith}
use Rattle.spindle_rounds.proofs.RoundMoves.{kept}
use Rattle.spindle_rounds.proofs.KeptSlots.{gives_back}
use Rattle.spindle_rounds.proofs.round.Round.give_slots.Goals as goal

pub load-requires : goal.load-requires
load-requires g c = (search rules, omega arith, kept (gives_back g.D.SlotContents.discipline g.met.D.SlotContents.lawful _ _ _ _ c.requires.leads))
