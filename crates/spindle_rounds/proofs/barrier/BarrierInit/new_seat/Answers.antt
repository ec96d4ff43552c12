-- A new seat keeps the table's rule.
use Rattle.std.proofs.Common.{rules, arith}
use Rattle.spindle_rounds.proofs.RoundMoves.{kept_split}
use Rattle.spindle_rounds.proofs.RoundOpening.{splits}
use Rattle.spindle_rounds.proofs.barrier.BarrierInit.new_seat.Goals as goal

pub split_seat-requires : goal.split_seat-requires
split_seat-requires g c = (search rules, omega arith, kept_split (splits g.D.SlotContents.discipline g.met.D.SlotContents.lawful _ _ _))
