use Rattle.spindle_rounds.proofs.round.pieces.Round+PieceSlots+A.with_slots.Goals as goal

pub returns-clause-opened : goal.returns-clause-opened
returns-clause-opened g c = c.in_ok-init.ensures.opened
