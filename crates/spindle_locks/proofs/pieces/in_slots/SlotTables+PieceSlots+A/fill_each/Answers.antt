-- Each turn puts the item that is last into the slot at the hand: it is the slot's own.
use Rattle.std.proofs.Common.{◌≡◌, ◌+◌, ◌∷◌, [], ℕ, length, length-drop, take, drop, reverse, refl, ap, ◌∙◌, sym, subst, arith}
use Rattle.std.proofs.Math.Seq.{drop-drop}
use Rattle.std.proofs.lemmas.List.{length-reverse, reverse-append}
use Rattle.spindle_rounds.specs.RoundPieces.{IsAtHand}
use Rattle.spindle_rounds.specs.SlotHands.{WaitsAs}
use Rattle.spindle_rounds.specs.SlotLoops.{IsEmpty, Turning}
use Rattle.spindle_rounds.proofs.SlotLoops.{turning_first, turning_head, turning_next}
use Rattle.spindle_locks.specs.SlotPieces.{IsItemOf}
use Rattle.spindle_locks.proofs.SlotRounds.{reverse_twice}
use Rattle.spindle_locks.proofs.pieces.in_slots.SlotTables+PieceSlots+A.fill_each.Goals as goal

pub loop-slot-init : goal.loop-slot-init
loop-slot-init g c = let all = c.args.items.now.items in record {
  seat = (refl, refl);
  view = refl;
  hand = turning_first IsEmpty (WaitsAs (IsItemOf all)) c.args.self.now.slots _ c.requires.held;
  left = c.reverse.ensures.items;
  block = c.reverse.ensures.capacity;
}

pub take_last-item-requires : goal.take_last-item-requires
take_last-item-requires g c = let all = c.args.items.now.items in let k : ℕ = c.loop-slot.slot in
    omega (arith, ap length c.loop-slot.invariant.left, length-reverse (drop k all), length-drop k all, c.loop-slot.items.ok.0, c.args.items.now.ok.0)

pub put_piece-requires-clause-head : goal.put_piece-requires-clause-head
put_piece-requires-clause-head g c = let few = c.requires.few in let all = c.args.items.now.items in
    let h = turning_head IsEmpty (WaitsAs (IsItemOf all)) c.args.self.now.slots c.loop-slot.slot _ c.loop-slot.invariant.hand (omega arith) in
    subst (λ y. IsAtHand c.loop-slot.slot y c.loop-slot.seat.me.1) h.2 h.1

pub loop-slot-preserved : goal.loop-slot-preserved
loop-slot-preserved g c = let i = c.loop-slot.invariant in let e = c.put_piece.ensures in let few = c.requires.few in let all = c.args.items.now.items in
    let k : ℕ = c.loop-slot.slot in let new = c.take_last-item.new.self.items in let x = c.take_last-item.result in
    let next : drop k all ≡ x ∷ reverse new = sym (reverse_twice (drop k all)) ∙ (ap reverse (sym i.left ∙ c.take_last-item.ensures.items)
    ∙ reverse-append new (x ∷ [])) in record {
      seat = (e.seat.0 ∙ i.seat.0, e.seat.1 ∙ i.seat.1);
      view = ap (λ m. m.0) e.behind ∙ i.view;
      hand = subst (λ m. Turning IsEmpty (WaitsAs (IsItemOf all)) c.args.self.now.slots (k + 1) m.1) (sym e.behind)
          (turning_next IsEmpty (WaitsAs (IsItemOf all)) c.args.self.now.slots k _ _ i.hand (omega arith) (_, refl, (x, refl, ap (take 1) next)));
      left = sym (reverse_twice new) ∙ ap reverse (sym (ap (drop 1) next) ∙ drop-drop 1 k all);
      block = c.take_last-item.ensures.capacity ∙ i.block;
    }
