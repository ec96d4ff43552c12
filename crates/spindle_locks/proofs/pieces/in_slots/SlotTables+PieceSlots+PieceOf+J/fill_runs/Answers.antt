-- Each turn puts a piece into the slot at the hand; where one is refused, all slots are emptied.
use Rattle.std.proofs.Common.{ℕ, ◌+◌, ◌<◌, refl, ap, ◌∙◌, sym, subst, arith}
use Rattle.std.proofs.Math.Nat.{le_antisymm, le_of_lt, le_trans}
use Rattle.spindle_rounds.specs.RoundPieces.{IsAtHand}
use Rattle.spindle_rounds.specs.SlotHands.{WaitsAs}
use Rattle.spindle_rounds.specs.SlotLoops.{IsAny, IsEmpty, HoldsEach, Turning}
use Rattle.spindle_rounds.proofs.SlotHands.{settled}
use Rattle.spindle_rounds.proofs.SlotLoops.{turning_first, turning_head, turning_next}
use Rattle.spindle_locks.specs.SlotPieces.{IsPieceOf}
use Rattle.spindle_locks.proofs.pieces.in_slots.SlotTables+PieceSlots+PieceOf+J.fill_runs.Goals as goal

pub loop-slot-init : goal.loop-slot-init
loop-slot-init g c = let p = c.args.pieces.now in
    record { seat = (refl, refl); view = refl; hand = turning_first IsEmpty (WaitsAs (IsPieceOf p.items p.count)) c.args.self.now.slots _ c.requires.held }

pub put_piece-requires-clause-head : goal.put_piece-requires-clause-head
put_piece-requires-clause-head g c = let few = c.requires.few in let p = c.args.pieces.now in
    let h = turning_head IsEmpty (WaitsAs (IsPieceOf p.items p.count)) c.args.self.now.slots c.loop-slot.slot _ c.loop-slot.invariant.hand (omega arith) in
    subst (λ y. IsAtHand c.loop-slot.slot y c.loop-slot.seat.me.1) h.2 h.1

pub loop-slot-preserved : goal.loop-slot-preserved
loop-slot-preserved g c = let i = c.loop-slot.invariant in let e = c.put_piece.ensures in let few = c.requires.few in let p = c.args.pieces.now in record {
  seat = (e.seat.0 ∙ i.seat.0, e.seat.1 ∙ i.seat.1);
  view = ap (λ m. m.0) e.behind ∙ i.view;
  hand = subst (λ m. Turning IsEmpty (WaitsAs (IsPieceOf p.items p.count)) c.args.self.now.slots (c.loop-slot.slot + 1) m.1) (sym e.behind)
      (turning_next IsEmpty (WaitsAs (IsPieceOf p.items p.count)) c.args.self.now.slots c.loop-slot.slot _ _ i.hand (omega arith) (_, refl, c.in-Ok.ensures));
}

pub batch-requires : goal.batch-requires
batch-requires g c = subst (λ (n : ℕ). c.loop-slot.slot < n) c.count-slot-end.ensures.number c.loop-slot-test.true

pub turn_slots-requires : goal.turn_slots-requires
turn_slots-requires g c = le_trans (le_of_lt (subst (λ (n : ℕ). c.loop-slot.slot < n) c.count-slot-end.ensures.number c.loop-slot-test.true)) c.requires.few

pub empty_slots-requires-clause-held : goal.empty_slots-requires-clause-held
empty_slots-requires-clause-held g c = let p = c.args.pieces.now in let few = c.requires.few in
    subst (λ m. HoldsEach IsAny c.args.self.now.slots m.1) (sym c.turn_slots.ensures.turned)
    (settled IsEmpty (WaitsAs (IsPieceOf p.items p.count)) IsAny c.args.self.now.slots c.loop-slot.slot c.loop-slot.seat.me.1 c.loop-slot.invariant.hand
    (λ k y le e. tt {0}) (λ k y lt w. tt {0}))

pub returns-clause-put : goal.returns-clause-put
returns-clause-put g c = let p = c.args.pieces.now in
    subst (λ (k : ℕ). Turning IsEmpty (WaitsAs (IsPieceOf p.items p.count)) c.args.self.now.slots k c.loop-slot.seat.me.1)
    (le_antisymm c.loop-slot.auto.slot-end c.loop-slot-test.false ∙ c.count-slot-end.ensures.number) c.loop-slot.invariant.hand
