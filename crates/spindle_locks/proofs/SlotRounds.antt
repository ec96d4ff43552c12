-- The pieces of a round in the slots of its table.
use Rattle.std.proofs.Common.{◌≡◌, ℕ, zero, suc, ◌+◌, ◌-◌, ◌*◌, ◌/◌, ◌%◌, ◌<◌, ◌≤◌, List, [], ◌∷◌, length, length-drop, take, drop, reverse, true, refl, ap, sym, ◌∙◌, subst, arith}
use Rattle.std.proofs.Math.Nat.{div_self, mod_self}
use Rattle.std.proofs.lemmas.List.{length-take, reverse-append}
use Rattle.std.specs.List.{AllZip}
use Rattle.atomic_table.specs.Table.{Me}
use Rattle.spindle_rounds.specs.declared.round_table.pieces.SlotState.{SlotState}
use Rattle.spindle_rounds.specs.declared.round_table.pieces.SlotState.TheVariants as stand
use Rattle.spindle_rounds.specs.declared.barrier.Barrier.{Barrier}
use Rattle.spindle_rounds.specs.declared.round_table.view.View.{View}
use Rattle.spindle_rounds.specs.PieceRounds.{PublishedPieces, AwaitsAnswers}
use Rattle.spindle_rounds.specs.RoundConditions.{HasPart, HasSense, IsDone, MayFill}
use Rattle.spindle_rounds.specs.RoundPieces.{IsAtHand}
use Rattle.spindle_rounds.specs.Seating.{IsSameSeat, slots_of}
use Rattle.spindle_rounds.specs.SlotHands.{AllOut, AnsweredAs, WaitsAs}
use Rattle.spindle_rounds.specs.SlotLoops.{HoldsEach, IsEmpty, IsPiece, Turning}
use Rattle.spindle_rounds.specs.Working.{IsIdle}
use Rattle.spindle_rounds.proofs.PieceClients.{one_at_hand}
use Rattle.spindle_rounds.specs.RoundSteps.{round_of}
use Rattle.spindle_rounds.specs.RoundViews.{Onward}
use Rattle.spindle_rounds.proofs.SlotHands.{laid_out, awaits, collected, turning_less}
use Rattle.spindle_parts.specs.Pieces.{counted}
use Rattle.spindle_locks.specs.PieceRuns.{piece_start, piece_at}
use Rattle.spindle_locks.specs.declared.pieces.slot_piece.OneOr.{OneOr}
use Rattle.spindle_locks.specs.SlotPieces.{IsAnswerTo, IsItemOf, IsPieceOf, all_of}
use Rattle.spindle_locks.specs.SlotRounds.{LeadsAt, PlayedPieces}
use Rattle.spindle_rounds.specs.declared.threads.tables.Tables.{Tables}

module _ {A B : Type 0} where
  -- what was found in the slot of a number answers the number's piece
  pub found_answer : (Meets : A → B → Type 0) (items : List A) (pieces k : ℕ) (c : List (ℕ × SlotState (OneOr A (List A)) (OneOr B (List B))))
      (y : SlotState (OneOr A (List A)) (OneOr B (List B))) (r : OneOr B (List B)) → IsAtHand k y c
      → (x : OneOr A (List A)) × (o : OneOr B (List B)) × (y ≡ stand.Done o) × IsAnswerTo Meets x o × IsPieceOf items pieces k x
      → IsAtHand k (stand.Done r) c → AllZip Meets (piece_at items pieces k) (all_of r)
  found_answer Meets items pieces k c y r at d found = let is : stand.Done r ≡ stand.Done d.1 = one_at_hand c k (stand.Done r) y found at ∙ d.2 in
      let same : d.1 ≡ r = cc in subst (λ z. AllZip Meets z (all_of r)) d.4 (subst (λ z. AllZip Meets (all_of d.0) (all_of z)) same d.3)

  -- what a slot of a round that has ended holds
  abbrev pub Held : (Meets : A → B → Type 0) (items : List A) (pieces : ℕ) → ℕ → SlotState (OneOr A (List A)) (OneOr B (List B)) → Type 0
  Held Meets items pieces = AnsweredAs (IsPieceOf items pieces) (IsAnswerTo Meets) pieces

-- of as many pieces as items each is an item
pub item_is_piece : {A : Type 0} (items : List A) (n k : ℕ) (piece : OneOr A (List A)) → n ≡ length items → IsItemOf items k piece → IsPieceOf items n k piece
item_is_piece {A} items n k piece many one = let l : ℕ = length items in
    let lt : k < l = omega (arith, ap length one.2, length-take 1 (drop k items), length-drop k items) in
    let whole : l / l ≡ 1 = div_self (omega arith) in let none : l % l ≡ 0 = mod_self l in
    let at : (j : ℕ) → piece_start l l j ≡ j = λ j. (let q : l / l * j ≡ 1 * j = ap (λ (m : ℕ). m * j) whole in omega (arith, q, none)) in
    let long : piece_start l l (k + 1) - piece_start l l k ≡ 1 = omega (arith, at k, at (k + 1)) in
    let piece_is : piece_at items l k ≡ take 1 (drop k items) = ap (λ (m : ℕ). take m (drop (piece_start l l k) items)) long
    ∙ ap (λ (m : ℕ). take 1 (drop m items)) (at k) in
    ap all_of one.1 ∙ (sym one.2 ∙ (sym piece_is ∙ ap (λ (m : ℕ). piece_at items m k) (sym many)))

-- so the slots hold the pieces, where each holds an item
pub items_are_pieces : {A B : Type 0} (items : List A) (n slots : ℕ) (c : List (ℕ × SlotState (OneOr A (List A)) B)) → n ≡ length items
    → Turning IsEmpty (WaitsAs (IsItemOf items)) slots n c → Turning IsEmpty (WaitsAs (IsPieceOf items n)) slots n c
items_are_pieces items n slots c many t = turning_less IsEmpty IsEmpty (WaitsAs (IsItemOf items)) (WaitsAs (IsPieceOf items n)) slots n c t (λ k y e. e)
    (λ k y w. (w.0, w.1, item_is_piece items n k w.0 many w.2))

-- of the numbers from one on, the one at a place
pub one_counted : (from n k : ℕ) → k < n → take 1 (drop k (counted from n)) ≡ (from + k) ∷ []
one_counted from zero k lt = absurd (omega arith)
one_counted from (suc n) zero lt = ap (λ (z : ℕ). z ∷ []) (omega arith)
one_counted from (suc n) (suc k) lt = one_counted (from + 1) n k (omega arith) ∙ ap (λ (z : ℕ). z ∷ []) (omega arith)

pub reverse_twice : {A : Type 0} (xs : List A) → reverse (reverse xs) ≡ xs
reverse_twice [] = refl
reverse_twice (x ∷ xs) = ap reverse (reverse-append (x ∷ []) xs) ∙ (reverse-append (reverse xs) (x ∷ []) ∙ ap (λ l. x ∷ l) (reverse_twice xs))

-- a leader whose seat knows what it knew leads as it did, whatever it did at its hand
pub still_leads : {T P A : Type 0} (tables : Tables T (SlotState P A) P) (b c : Barrier T (SlotState P A) P) → c.init ≡ b.init → c.sense ≡ b.sense
    → c.is_member ≡ b.is_member → IsSameSeat b.seat c.seat → c.seat.me.0 ≡ b.seat.me.0 → LeadsAt tables b → LeadsAt tables c
still_leads {T} {P} {A} tables b c init sense member seat view l = let h = l.at.0 in record {
  at = (
    (
      seat.0 ∙ (h.0 ∙ ap (λ i. i.now.table.shared.table_id) (sym init)),
      subst (λ (z : View P). HasSense z.standing c.sense) (sym view) (subst (HasSense b.seat.me.0.standing) (sym sense) h.1),
      subst (λ (z : View P). HasPart z.standing c.is_member) (sym view) (subst (HasPart b.seat.me.0.standing) (sym member) h.2),
    ),
    seat.0 ∙ l.at.1,
    ap (λ (z : View P). z.threads) view ∙ l.at.2,
  );
  leads = ap (λ (z : View P). z.leader) view ∙ l.leads;
  between = subst MayFill (sym view) l.between;
  idle = subst IsIdle (sym view) l.idle;
  out = subst (λ (z : View P). AllOut (slots_of tables.round.init) z.board) (sym view) l.out;
}

module _ {P A : Type 0} (answers : P → A → Type 0) (slots n : ℕ) (m : Me (SlotState P A) (View P)) where
  -- whatever the pieces are, once they are published and run their leader may await the answers
  pub may_await : (w u : Me (SlotState P A) (View P)) → Turning IsEmpty IsPiece slots n m.1 → PublishedPieces answers n m w → Onward w.0 u.0 → m.0.leader ≡ true
      → IsIdle u.0 → IsDone u.0 → AwaitsAnswers answers slots n u
  may_await w u t p on leads idle done = let Any : ℕ → P → Type 0 = λ k x. Unit {0} in
      let any = turning_less IsEmpty IsEmpty IsPiece (WaitsAs Any) slots n m.1 t (λ k y e. e) (λ k y x. (x.0, x.1, tt {0})) in
      awaits answers Any slots n m w u (laid_out answers Any slots n m w any p) p on (on.leader ∙ (p.seat.1 ∙ leads)) idle done

  -- after the round the slots hold the answers to what the pieces were
  pub answers_held : (Is : ℕ → P → Type 0) (x : Me (SlotState P A) (View P)) → Turning IsEmpty (WaitsAs Is) slots n m.1 → n ≤ slots
      → PlayedPieces answers slots n m x → HoldsEach (AnsweredAs Is answers n) slots x.1
  answers_held Is x t few p = collected answers Is slots n (round_of m.0.standing) p.found p.shown p.worked p.ended x
      (laid_out answers Is slots n m p.shown t p.published) p.on p.none p.next p.taken few p.answered
