-- The slot at the hand holds an answer, and nothing else.
use Rattle.spindle_rounds.proofs.PieceClients.{one_at_hand}
use Rattle.spindle_rounds.proofs.round.pieces.Round+PieceSlots+A.take_answer.Goals as goal

pub unreachable-requires : goal.unreachable-requires
unreachable-requires g c = let same = one_at_hand _ _ _ _ c.requires.head.1 c.swap_slot.ensures.found in let empty = c.in-Empty.is in cc

pub unreachable-requires-in-Waits : goal.unreachable-requires-in-Waits
unreachable-requires-in-Waits g c = let same = one_at_hand _ _ _ _ c.requires.head.1 c.swap_slot.ensures.found in let waits = c.in-Waits.is in cc
