-- What was vacant is found empty.
use Rattle.std.proofs.Common.{ℕ, subst}
use Rattle.spindle_rounds.specs.RoundPieces.{pieces}
use Rattle.spindle_rounds.specs.SlotSteps.{TakenOut}
use Rattle.spindle_rounds.proofs.SlotHands.{holds_all}
use Rattle.spindle_rounds.proofs.round.pieces.Round+PieceSlots+A.hold_slots.Goals as goal

pub returns-clause-held : goal.returns-clause-held
returns-clause-held g c = let t = c.take_slots.ensures.step in let r = c.requires in
    holds_all g.A.PieceKind.answers c.args.slots t.0 c.args.seat.now.me c.take_slots.new.seat.me
    (subst (λ (n : ℕ). TakenOut (pieces g.A.PieceKind.answers) n t.0 c.args.seat.now.me c.take_slots.new.seat.me) r.slots t.1) r.fresh.0 r.fresh.1
