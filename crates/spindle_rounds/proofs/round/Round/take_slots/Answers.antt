-- A load with which every slot goes out keeps the table's rule.
use Rattle.std.proofs.Common.{rules, arith}
use Rattle.spindle_rounds.proofs.RoundMoves.{kept}
use Rattle.spindle_rounds.proofs.KeptSlots.{takes_out}
use Rattle.spindle_rounds.proofs.round.Round.take_slots.Goals as goal

pub load-requires : goal.load-requires
load-requires g c = (search rules, omega arith, kept (takes_out g.D.SlotContents.discipline g.met.D.SlotContents.lawful _ _ _ _ c.requires.leads))
