-- Where each item is a piece, the slots hold the pieces.
use Rattle.std.proofs.Common.{ℕ, length, refl, sym, subst}
use Rattle.spindle_rounds.specs.SlotHands.{WaitsAs}
use Rattle.spindle_rounds.specs.SlotLoops.{IsEmpty, Turning}
use Rattle.spindle_locks.specs.SlotPieces.{IsItemOf, IsPieceOf, all_items, pieces_of}
use Rattle.spindle_locks.proofs.SlotRounds.{items_are_pieces}
use Rattle.spindle_locks.proofs.pieces.items.ItemsInFillsSlots.fill.Goals as goal

pub returns-in-Each-clause-put : goal.returns-in-Each-clause-put
returns-in-Each-clause-put g c = let q = c.in-Each.items in let n : ℕ = length q.items in let s : ℕ = c.args.tables.now.slots in
    let hand = c.fill_each.new.seat.me.1 in
    let each = subst (λ (k : ℕ). Turning IsEmpty (WaitsAs (IsItemOf q.items)) s k hand) q.ok.0 c.fill_each.ensures.put in
    subst (λ z. Turning IsEmpty (WaitsAs (IsPieceOf (all_items z) (pieces_of z))) s (pieces_of z) hand) (sym c.in-Each.is)
    (items_are_pieces q.items n s hand refl each)
