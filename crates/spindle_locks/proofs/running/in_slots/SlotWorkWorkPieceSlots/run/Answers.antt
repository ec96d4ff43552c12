-- The piece is taken out of its slot, and the claim is finished.
use Rattle.std.proofs.Common.{ap, subst}
use Rattle.spindle_rounds.specs.PartyWork.{HasFinished}
use Rattle.spindle_locks.proofs.running.in_slots.SlotWorkWorkPieceSlots.run.Goals as goal

pub returns-clause-finished : goal.returns-clause-finished
returns-clause-finished g c = let end = c.finish.new.seat.me.0 in
    subst (λ v. HasFinished c.finish.result v end) (ap (λ m. m.0) c.take_piece.ensures.left) c.finish.ensures.finished
