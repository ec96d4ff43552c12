-- Each turn puts the next chunk into the slot at the hand.
use Rattle.std.proofs.Common.{◌≡◌, ◌+◌, ◌-◌, ℕ, suc, length, vec_len, refl, ap, ◌∙◌, sym, subst, arith}
use Rattle.spindle_rounds.specs.RoundPieces.{IsAtHand}
use Rattle.spindle_rounds.specs.SlotHands.{WaitsAs}
use Rattle.spindle_rounds.specs.SlotLoops.{IsEmpty, Turning}
use Rattle.spindle_rounds.proofs.SlotLoops.{turning_first, turning_head, turning_next}
use Rattle.spindle_locks.specs.InPlace.{last_pieces}
use Rattle.spindle_locks.specs.SlotPieces.{IsItemOf, IsPieceOf}
use Rattle.spindle_locks.specs.PieceRuns.{piece_at}
use Rattle.spindle_locks.proofs.InPlace.{last_many, snoc_last}
use Rattle.spindle_locks.proofs.SlotRounds.{items_are_pieces}
use Rattle.spindle_locks.proofs.pieces.in_slots.SlotTables+PieceSlots+ChunkOf+J.fill_in_place.Goals as goal

pub loop-slot-init : goal.loop-slot-init
loop-slot-init g c = let zero : c.args.jobs - 0 ≡ c.args.jobs = omega arith in record {
  seat = (refl, refl);
  view = refl;
  hand = turning_first IsEmpty (WaitsAs (IsPieceOf c.args.items.now.items c.args.jobs)) c.args.self.now.slots _ c.requires.held;
  chunks = c.load.ensures.chunks ∙ ap (last_pieces c.args.items.now.items c.args.jobs) (sym zero);
}

pub take_last-chunk-requires : goal.take_last-chunk-requires
take_last-chunk-requires g c = let i = c.loop-slot.invariant in let few = c.requires.few in let old = c.args.items.now.items in let n : ℕ = c.args.jobs in
    let many = last_many old n (n - c.loop-slot.slot) in omega (arith, ap length i.chunks, many, c.loop-slot.buffers.chunks.ok.0)

pub put_piece-requires-clause-head : goal.put_piece-requires-clause-head
put_piece-requires-clause-head g c = let few = c.requires.few in
    let h = turning_head IsEmpty (WaitsAs (IsPieceOf c.args.items.now.items c.args.jobs)) c.args.self.now.slots c.loop-slot.slot _ c.loop-slot.invariant.hand
    (omega arith) in subst (λ y. IsAtHand c.loop-slot.slot y c.loop-slot.seat.me.1) h.2 h.1

pub loop-slot-preserved : goal.loop-slot-preserved
unfolding last_pieces
loop-slot-preserved g c = let i = c.loop-slot.invariant in let e = c.put_piece.ensures in let few = c.requires.few in let old = c.args.items.now.items in
    let n : ℕ = c.args.jobs in let k : ℕ = c.loop-slot.slot in let left : n - k ≡ suc (n - (k + 1)) = omega arith in
    let same = snoc_last c.take_last-chunk.new.self.items (last_pieces old n (n - (k + 1))) c.take_last-chunk.result (piece_at old n (n - suc (n - (k + 1))))
    (sym c.take_last-chunk.ensures.items ∙ (i.chunks ∙ ap (last_pieces old n) left)) in
    let here : n - suc (n - (k + 1)) ≡ k = omega arith in record {
      seat = (e.seat.0 ∙ i.seat.0, e.seat.1 ∙ i.seat.1);
      view = ap (λ m. m.0) e.behind ∙ i.view;
      hand = subst (λ m. Turning IsEmpty (WaitsAs (IsPieceOf old n)) c.args.self.now.slots (k + 1) m.1) (sym e.behind)
          (turning_next IsEmpty (WaitsAs (IsPieceOf old n)) c.args.self.now.slots k _ _ i.hand (omega arith)
          (_, refl, same.1 ∙ ap (piece_at old n) here));
      chunks = same.0;
    }

pub returns-then-jobs-len-clause-put : goal.returns-then-jobs-len-clause-put
returns-then-jobs-len-clause-put g c = let old = c.args.items.now in let n : ℕ = c.args.jobs in let s : ℕ = c.args.self.now.slots in
    let hand = c.fill_each.new.seat.me.1 in let same : vec_len old ≡ n = omega (arith, c.if-jobs-len.true) in
    let many : n ≡ length old.items = omega (arith, same, old.ok.0) in
    let each = subst (λ (k : ℕ). Turning IsEmpty (WaitsAs (IsItemOf old.items)) s k hand) same c.fill_each.ensures.put in
    items_are_pieces old.items n s hand many each
