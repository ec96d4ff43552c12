-- Nothing stands in the slot at the hand.
use Rattle.spindle_rounds.proofs.PieceClients.{one_at_hand}
use Rattle.spindle_rounds.proofs.round.pieces.Round+PieceSlots+A.put_piece.Goals as goal

pub unreachable-requires : goal.unreachable-requires
unreachable-requires g c = let same = one_at_hand _ _ _ _ c.requires.head c.swap_slot.ensures.found in let waits = c.in-Waits.is in cc

pub unreachable-requires-in-Done : goal.unreachable-requires-in-Done
unreachable-requires-in-Done g c = let same = one_at_hand _ _ _ _ c.requires.head c.swap_slot.ensures.found in let done = c.in-Done.is in cc
