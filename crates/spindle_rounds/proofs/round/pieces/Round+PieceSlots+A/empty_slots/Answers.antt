-- Each turn empties the slot at the hand.
use Rattle.std.proofs.Common.{◌+◌, refl, ap, ◌∙◌, sym, subst, arith}
use Rattle.spindle_rounds.specs.SlotLoops.{IsAny, IsEmpty, Turning}
use Rattle.spindle_rounds.proofs.SlotLoops.{turning_first, turning_head, turning_next, turning_last}
use Rattle.spindle_rounds.proofs.round.pieces.Round+PieceSlots+A.empty_slots.Goals as goal

pub loop-slot-init : goal.loop-slot-init
loop-slot-init g c = record { seat = (refl, refl); view = refl; hand = turning_first IsAny IsEmpty c.args.slots _ c.requires.held }

pub swap_slot-requires-clause-head : goal.swap_slot-requires-clause-head
swap_slot-requires-clause-head g c = let h = turning_head IsAny IsEmpty c.args.slots c.loop-slot.slot _ c.loop-slot.invariant.hand (omega arith) in (h.0, h.1)

pub loop-slot-preserved : goal.loop-slot-preserved
loop-slot-preserved g c = let i = c.loop-slot.invariant in let e = c.swap_slot.ensures in record {
  seat = (e.seat.0 ∙ i.seat.0, e.seat.1 ∙ i.seat.1);
  view = ap (λ m. m.0) e.behind ∙ i.view;
  hand = subst (λ m. Turning IsAny IsEmpty c.args.slots (c.loop-slot.slot + 1) m.1) (sym e.behind)
      (turning_next IsAny IsEmpty c.args.slots c.loop-slot.slot _ _ i.hand (omega arith) refl);
}

pub returns-clause-held : goal.returns-clause-held
returns-clause-held g c = turning_last IsAny IsEmpty c.args.slots c.loop-slot.slot _ (omega arith) c.loop-slot.invariant.hand
