-- Each turn puts the slot's own number into the slot at the hand.
use Rattle.std.proofs.Common.{◌+◌, ◌∷◌, [], ℕ, refl, ap, ◌∙◌, sym, subst, arith}
use Rattle.spindle_parts.specs.Pieces.{counted}
use Rattle.spindle_rounds.specs.RoundPieces.{IsAtHand}
use Rattle.spindle_rounds.specs.SlotHands.{WaitsAs}
use Rattle.spindle_rounds.specs.SlotLoops.{IsEmpty, Turning}
use Rattle.spindle_rounds.proofs.SlotLoops.{turning_first, turning_head, turning_next}
use Rattle.spindle_locks.specs.SlotPieces.{IsItemOf}
use Rattle.spindle_locks.proofs.SlotRounds.{one_counted}
use Rattle.spindle_locks.proofs.pieces.in_slots.SlotTables+PieceSlots+A.fill_counted.Goals as goal

pub loop-slot-init : goal.loop-slot-init
loop-slot-init g c = let all = counted 0 c.args.count in record {
  seat = (refl, refl);
  view = refl;
  hand = turning_first IsEmpty (WaitsAs (IsItemOf all)) c.args.self.now.slots _ c.requires.held;
}

pub put_piece-requires-clause-head : goal.put_piece-requires-clause-head
put_piece-requires-clause-head g c = let few = c.requires.few in let all = counted 0 c.args.count in
    let h = turning_head IsEmpty (WaitsAs (IsItemOf all)) c.args.self.now.slots c.loop-slot.slot _ c.loop-slot.invariant.hand (omega arith) in
    subst (λ y. IsAtHand c.loop-slot.slot y c.loop-slot.seat.me.1) h.2 h.1

pub loop-slot-preserved : goal.loop-slot-preserved
loop-slot-preserved g c = let i = c.loop-slot.invariant in let e = c.put_piece.ensures in let few = c.requires.few in
    let all = counted 0 c.args.count in let k : ℕ = c.loop-slot.slot in record {
      seat = (e.seat.0 ∙ i.seat.0, e.seat.1 ∙ i.seat.1);
      view = ap (λ m. m.0) e.behind ∙ i.view;
      hand = subst (λ m. Turning IsEmpty (WaitsAs (IsItemOf all)) c.args.self.now.slots (k + 1) m.1) (sym e.behind)
          (turning_next IsEmpty (WaitsAs (IsItemOf all)) c.args.self.now.slots k _ _ i.hand (omega arith)
          (_, refl, (k, refl, one_counted 0 c.args.count k (omega arith) ∙ ap (λ (z : ℕ). z ∷ []) (omega arith))));
    }
