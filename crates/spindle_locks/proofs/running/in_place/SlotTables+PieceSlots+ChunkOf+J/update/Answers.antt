-- The chunks go into the slots, are played, and what became of them comes out, a piece a turn.
use Rattle.std.proofs.Common.{◌≡◌, ◌≤◌, ◌+◌, ℕ, [], refl, ap, ◌∙◌, sym, subst, arith}
use Rattle.std.proofs.lemmas.Slice.Zip.{AllZip-long}
use Rattle.std.specs.List.{AllZip}
use Rattle.spindle_rounds.specs.RoundConditions.{HasPart, HasSense}
use Rattle.spindle_rounds.specs.RoundPieces.{IsAtHand}
use Rattle.spindle_rounds.specs.SlotHands.{WaitsAs}
use Rattle.spindle_rounds.specs.SlotLoops.{IsEmpty, IsPiece, HoldsEach, Turning}
use Rattle.spindle_rounds.specs.Working.{PlayedRound}
use Rattle.spindle_rounds.proofs.SlotHands.{settled, turning_less}
use Rattle.spindle_rounds.proofs.SlotLoops.{turning_first, turning_head, turning_next}
use Rattle.spindle_locks.specs.PieceRuns.{items_before, piece_at}
use Rattle.spindle_locks.proofs.InPlace.{all_before}
use Rattle.spindle_locks.proofs.Outputs.{AllZip-AddsAnswers}
use Rattle.spindle_locks.proofs.PieceRuns.{before_first, items_more, next_fits}
use Rattle.spindle_locks.specs.SlotPieces.{IsAnswerTo, IsPieceOf, all_of}
use Rattle.spindle_locks.proofs.SlotRounds.{Held, answers_held, found_answer, still_leads}
use Rattle.spindle_locks.proofs.running.in_place.SlotTables+PieceSlots+ChunkOf+J.update.Goals as goal

pub fill_in_place-requires-clause-held : goal.fill_in_place-requires-clause-held
fill_in_place-requires-clause-held g c = rw c.seat.ensures.value (subst (λ
    (k : ℕ). HoldsEach IsEmpty k c.args.barrier.now.seat.me.1) c.args.self.now.many c.requires.leads.hand)

pub play_held-requires-clause-leads : goal.play_held-requires-clause-leads
play_held-requires-clause-leads g c κs within = let f = rw c.seat.ensures.value at c.fill_in_place.ensures.seat in
    still_leads c.args.self.now.tables.now c.args.barrier.now _ refl refl refl f.0 f.1 c.requires.leads.leads

pub play_held-requires-clause-pieces : goal.play_held-requires-clause-pieces
play_held-requires-clause-pieces g c κs within =
    turning_less IsEmpty IsEmpty (WaitsAs (IsPieceOf c.args.items.now.items c.args.jobs)) IsPiece c.args.self.now.slots c.args.jobs
    c.fill_in_place.new.seat.me.1 c.fill_in_place.ensures.put (λ k y e. e) (λ k y w. (w.0, w.1))

pub loop-slot-init : goal.loop-slot-init
loop-slot-init g c = let old = c.args.items.now.items in let n : ℕ = c.args.jobs in let s : ℕ = c.args.self.now.slots in let R = g.J.Updates.updated in
    let few = c.requires.counted in let le : n ≤ s = omega arith in let after = c.play_held.new.barrier in let e = c.fill_in_place.ensures in
    let same = rw c.seat.ensures.value at e.seat in
    let held = answers_held (IsAnswerTo R) s n c.fill_in_place.new.seat.me (IsPieceOf old n) after.seat.me e.put le c.play_held.ensures.answered in record {
      leads = c.play_held.ensures.leads;
      same = (let k = c.play_held.ensures.same in (k.0, (k.1.0, k.1.1, k.1.2 ∙ same.0.1)));
      played = subst (λ v. PlayedRound n v after.seat.me.0) same.1 c.play_held.ensures.played;
      hand = turning_first (Held R old n) IsEmpty s after.seat.me.1 held;
      before = subst (λ xs. AllZip R xs c.fill_in_place.new.items.items) (sym (before_first old n)) (subst (λ ys. AllZip R [] ys) (sym e.items.0) (tt {0}));
      room = omega (arith, e.items.1);
    }

pub take_answer-answer-requires-clause-head : goal.take_answer-answer-requires-clause-head
take_answer-answer-requires-clause-head g c = let few = c.requires.counted in let k : ℕ = c.loop-slot.slot in let old = c.args.items.now.items in
    let h = turning_head (Held g.J.Updates.updated old c.args.jobs) IsEmpty c.args.self.now.slots k _
    c.loop-slot.invariant.hand (omega arith) in
    let d = h.2.done (omega arith) in rw c.seat-in-loop-slot.ensures.value (d.1, subst (λ y. IsAtHand k y c.loop-slot.barrier.seat.me.1) d.2 h.1)

pub unload-requires : goal.unload-requires
unload-requires g c = let few = c.requires.counted in let k : ℕ = c.loop-slot.slot in let old = c.args.items.now.items in let n : ℕ = c.args.jobs in
    let R = g.J.Updates.updated in let i = c.loop-slot.invariant in
    let h = turning_head (Held R old n) IsEmpty c.args.self.now.slots k _ i.hand (omega arith) in
    let b = c.loop-slot.barrier in let r = c.take_answer-answer.result in
    let z = found_answer R old n k b.seat.me.1 h.0 r h.1 (h.2.done (omega arith))
    (rw c.seat-in-loop-slot.ensures.value at c.take_answer-answer.ensures.found) in
    let long = AllZip-long R (piece_at old n k) (all_of r) z in let fits = next_fits R old n k c.loop-slot.items.items (omega arith) i.before in
    record { room = omega (arith, fits, long, i.room) }

pub loop-slot-preserved : goal.loop-slot-preserved
loop-slot-preserved g c = let few = c.requires.counted in let k : ℕ = c.loop-slot.slot in let old = c.args.items.now.items in let n : ℕ = c.args.jobs in
    let s : ℕ = c.args.self.now.slots in let R = g.J.Updates.updated in let i = c.loop-slot.invariant in
    let at_hand = rw c.seat-in-loop-slot.ensures.value at c.take_answer-answer.ensures in
    let b = c.loop-slot.barrier in let r = c.take_answer-answer.result in
    let h = turning_head (Held R old n) IsEmpty s k _ i.hand (omega arith) in
    let z = found_answer R old n k b.seat.me.1 h.0 r h.1 (h.2.done (omega arith)) at_hand.found in let view = ap (λ m. m.0) at_hand.behind in
    let more = AllZip-AddsAnswers R (items_before old n k) (piece_at old n k) c.loop-slot.items.items c.unload.new.items.items i.before
    (all_of r, z, c.unload.ensures.items) in let leads = still_leads c.args.self.now.tables.now b _ refl refl refl at_hand.seat view i.leads in record {
      leads = leads;
      same = (leads.at.0, (i.same.1.0, i.same.1.1, at_hand.seat.1 ∙ i.same.1.2));
      played = subst (λ v. PlayedRound n c.args.barrier.now.seat.me.0 v) (sym view) i.played;
      hand = subst (λ m. Turning (Held R old n) IsEmpty s (k + 1) m.1) (sym at_hand.behind)
          (turning_next (Held R old n) IsEmpty s k _ _ i.hand (omega arith) refl);
      before = subst (λ xs. AllZip R xs c.unload.new.items.items) (sym (items_more old n k)) more;
      room = omega (arith, c.unload.ensures.block, i.room);
    }

pub returns-clause-leads : goal.returns-clause-leads
returns-clause-leads g c = let few = c.requires.counted in let old = c.args.items.now.items in let n : ℕ = c.args.jobs in let s : ℕ = c.args.self.now.slots in
    let R = g.J.Updates.updated in let i = c.loop-slot.invariant in let end : c.loop-slot.slot ≡ n = omega arith in
    let e = rw c.seat-2.ensures.value at c.turn_slots.ensures in
    let t = subst (λ (k : ℕ). Turning (Held R old n) IsEmpty s k c.loop-slot.barrier.seat.me.1) end i.hand in record {
      leads = still_leads c.args.self.now.tables.now c.loop-slot.barrier _ refl refl refl e.seat (ap (λ m. m.0) e.turned) i.leads;
      hand = subst (λ (k : ℕ). HoldsEach IsEmpty k c.turn_slots.new.seat.me.1) (sym c.args.self.now.many) (subst (λ m. HoldsEach IsEmpty s m.1) (sym e.turned)
          (settled (Held R old n) IsEmpty IsEmpty s n c.loop-slot.barrier.seat.me.1 t (λ k y le h. h.empty le) (λ k y lt e. e)));
    }

pub returns-clause-same : goal.returns-clause-same
returns-clause-same g c = let i = c.loop-slot.invariant in let e = rw c.seat-2.ensures.value at c.turn_slots.ensures in let b = c.loop-slot.barrier in
    let h = i.same.0 in
    let view = ap (λ m. m.0) e.turned in (
      (
        e.seat.0 ∙ h.0,
        subst (λ v. HasSense v.standing b.sense) (sym view) h.1,
        subst (λ v. HasPart v.standing b.is_member) (sym view) h.2,
      ),
      (i.same.1.0, i.same.1.1, e.seat.1 ∙ i.same.1.2),
    )

pub returns-clause-updated : goal.returns-clause-updated
returns-clause-updated g c = let few = c.requires.counted in let old = c.args.items.now.items in let n : ℕ = c.args.jobs in
    let end : c.loop-slot.slot ≡ n = omega arith in let R = g.J.Updates.updated in let new = c.loop-slot.items.items in
    subst (λ xs. AllZip R xs new) (all_before old n (omega arith)) (subst (λ (k : ℕ). AllZip R (items_before old n k) new) end c.loop-slot.invariant.before)

pub returns-clause-played : goal.returns-clause-played
returns-clause-played g c =
    subst (λ v. PlayedRound c.args.jobs c.args.barrier.now.seat.me.0 v) (sym (ap (λ m. m.0)
    (rw c.seat-2.ensures.value at c.turn_slots.ensures.turned))) c.loop-slot.invariant.played
