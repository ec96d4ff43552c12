-- What the clause of the table says of each slot.
use Rattle.spindle_rounds.proofs.SlotsTold.{slots_tell}
use Rattle.spindle_rounds.proofs.round_table.pieces.every_slot.Goals as goal

pub returns : goal.returns
returns g c = λ t run s rule. slots_tell g.A.PieceKind.answers run s rule.slots
