-- The load of what is left keeps the table's rule.
use Rattle.std.proofs.Common.{rules, arith}
use Rattle.spindle_rounds.proofs.RoundMoves.{kept}
use Rattle.spindle_rounds.proofs.KeptLeftovers.{finds, remainder_finds}
use Rattle.spindle_rounds.proofs.round.Round.left.Goals as goal

pub load-requires : goal.load-requires
load-requires g c = (search rules, omega arith, kept (finds g.D.SlotContents.discipline g.met.D.SlotContents.lawful _ _ _ _ _ (omega arith)))

pub load-requires-else-t-self : goal.load-requires-else-t-self
load-requires-else-t-self g c = (search rules, omega arith, kept (remainder_finds g.D.SlotContents.discipline g.met.D.SlotContents.lawful _ _ _ _))
