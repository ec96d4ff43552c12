-- A loop over the slots at a leader's hand: its first turn, each turn, its end, and what may be published after it.
-- Its invariant is `Turning P Q n i` of the hand: P holds of what is left from slot i on, Q of what was put before it. turning_first
-- begins it, turning_head gives what `swap_slot` and `put_piece` ask, turning_next goes on with their clause `behind`, and turning_last
-- ends it. After a part of the slots pieces_held gives what `publish_held` rests on.
use Rattle.std.proofs.Common.{◌≡◌, ⊎_elim, true, ℕ, suc, ◌+◌, ◌<◌, ◌≤◌, List, [], ◌∷◌, ◌++◌, length, length-append, sym, refl, ap, ◌∙◌, subst, arith}
use mathlib.Core.Option.{some, some-ne-none}
use lib.ListN.{get_elem?}
use Rattle.atomic_table.specs.Table.{Me, rest}
use Rattle.spindle_rounds.specs.declared.round_table.view.Spot.{Spot}
use Rattle.spindle_rounds.specs.declared.round_table.view.Spot.TheVariants.{Out, Filled}
use Rattle.spindle_rounds.specs.declared.round_table.view.Standing.TheVariants.{Inside}
use Rattle.spindle_rounds.specs.declared.round_table.view.View.{View}
use Rattle.spindle_rounds.specs.declared.round_table.pieces.SlotState.{SlotState}
use Rattle.spindle_rounds.specs.RoundSlots.{spot_at}
use Rattle.spindle_rounds.specs.RoundConditions.{MayFill, MayPutAll}
use Rattle.spindle_rounds.specs.SlotSteps.{numbered, board_back}
use Rattle.spindle_rounds.specs.SlotLoops.{IsPiece, HoldsEach, Turning}
use Rattle.spindle_rounds.specs.RoundPieces.{pieces, spot_with, AreFilled, IsAtHand, IsUnrun}
use Rattle.spindle_rounds.specs.SpotPlaces.{spot_else}
use Rattle.spindle_rounds.proofs.Lists.{at_end}
use Rattle.spindle_rounds.proofs.PieceClients.{there, turned_on, may_put_all, back_before, piece_back}

module _ {X : Type 0} where
  module _ (P Q : ℕ → X → Type 0) (n : ℕ) where
    pub turning_first : (c : List (ℕ × X)) → HoldsEach P n c → Turning P Q n 0 c
    turning_first c h = record {
      old = h.ys;
      new = [];
      hand = h.hand;
      left = (let a = h.many in omega arith);
      done = refl;
      old_are = λ k y e. let at : k ≡ 0 + k = omega arith in subst (λ (j : ℕ). P j y) at (h.each k y e);
      new_are = λ k y e. absurd (some-ne-none y (sym e));
    }

    -- the slot i is at the hand
    pub turning_head : (i : ℕ) (c : List (ℕ × X)) → Turning P Q n i c → i < n → (y : X) × IsAtHand i y c × P i y
    turning_head i c t lt = go t.old t.hand t.left t.old_are
      where
        go : (old : List X) → c ≡ numbered i old (numbered 0 t.new []) → i + length old ≡ n → ((k : ℕ) (y : X) → get_elem? old k ≡ some y → P (i + k) y)
            → (y : X) × IsAtHand i y c × P i y
        go [] is many all = absurd (omega arith)
        go (y ∷ old) is many all = let at : i + 0 ≡ i = omega arith in (
          y,
          is ∙ ap (λ (l : List (ℕ × X)). let z : List (ℕ × X) = (i, y) ∷ rest l in z) (sym is),
          subst (λ (j : ℕ). P j y) at (all 0 y refl),
        )

    -- and goes behind the others, with what was put there
    pub turning_next : (i : ℕ) (c : List (ℕ × X)) (z : X) → Turning P Q n i c → i < n → Q i z → Turning P Q n (i + 1) (rest c ++ (i, z) ∷ [])
    turning_next i c z t lt q = go t.old t.hand t.left t.old_are
      where
        go : (old : List X) → c ≡ numbered i old (numbered 0 t.new []) → i + length old ≡ n → ((k : ℕ) (y : X) → get_elem? old k ≡ some y → P (i + k) y)
            → Turning P Q n (i + 1) (rest c ++ (i, z) ∷ [])
        go [] is many all = absurd (omega arith)
        go (y ∷ old) is many all = record {
          old = old;
          new = t.new ++ z ∷ [];
          hand = ap (λ (l : List (ℕ × X)). rest l ++ (i, z) ∷ []) is ∙ turned_on i old t.new z t.done;
          left = omega arith;
          done = (let a = length-append t.new (z ∷ []) in let b = t.done in omega arith);
          old_are = λ k x e. let at : i + suc k ≡ i + 1 + k = omega arith in subst (λ (j : ℕ). P j x) at (all (suc k) x e);
          new_are = λ k x e. ⊎_elim (t.new_are k x) (λ (s : (k ≡ length t.new) × (z ≡ x)). let at : i ≡ k = (let a = s.0 in let b = t.done in omega arith) in
              subst (λ (w : ℕ × X). Q w.0 w.1) (λ j. (at j, s.1 j)) q) (at_end t.new z x k e);
        }

    pub turning_last : (i : ℕ) (c : List (ℕ × X)) → i ≡ n → Turning P Q n i c → HoldsEach Q n c
    turning_last i c end t = record { ys = t.new; many = t.done ∙ end; hand = go t.old t.hand t.left; each = t.new_are }
      where
        go : (old : List X) → c ≡ numbered i old (numbered 0 t.new []) → i + length old ≡ n → c ≡ numbered 0 t.new []
        go [] is many = is
        go (y ∷ old) is many = absurd (omega arith)

module _ {P A : Type 0} (answers : P → A → Type 0) (q : ℕ) where
  abbrev Slot : Type 0
  Slot = SlotState P A

  abbrev Board : Type 0
  Board = List (ℕ × Spot P)

  abbrev back : ℕ → List Slot → Board → Board
  back i ys b = board_back (pieces answers) q (numbered i ys []) b

  -- some slots may go back, and then others
  put_on : (i : ℕ) (ys : List Slot) (c : List (ℕ × Slot)) (b : Board) → ((k : ℕ) → i ≤ k → k < i + length ys → spot_at b k ≡ Out)
      → ((k : ℕ) (y : Slot) → get_elem? ys k ≡ some y → IsUnrun answers y) → MayPutAll (pieces answers) q c (back i ys b) → MayPutAll (pieces answers) q
      (numbered i ys c) b
  put_on i [] c b out unrun more = more
  put_on i (y ∷ ys) c b out unrun more = (
    (out i (omega arith) (omega arith), unrun 0 y refl),
    put_on (i + 1) ys c ((i, spot_with answers q y) ∷ b)
        (λ k le lt. spot_else b i k (spot_with answers q y) (λ e. omega arith) ∙ out k (omega arith) (omega arith)) (λ k z e. unrun (suc k) z e) more,
  )

  pub back_on : (i : ℕ) (ys : List Slot) (c : List (ℕ × Slot)) (b : Board) → board_back (pieces answers) q (numbered i ys c) b ≡ board_back (pieces answers) q c
      (back i ys b)
  back_on i [] c b = refl
  back_on i (y ∷ ys) c b = back_on (i + 1) ys c ((i, spot_with answers q y) ∷ b)

-- the leader, having published nothing, holds slots that may go back, and then each of n jobs has its piece in its slot
abbrev pub HoldsPieces : {P A : Type 0} (answers : P → A → Type 0) → ℕ → Me (SlotState P A) (View P) → Type 0
HoldsPieces answers n m = (q : ℕ) × (m.0.standing ≡ Inside q) × (m.0.known.unpublished ≡ true) × MayPutAll (pieces answers) q m.1 m.0.board
    × AreFilled answers q n (board_back (pieces answers) q m.1 m.0.board)

-- where every slot is out, and the first n hold pieces and the others nothing that was run, the n may be published
pub pieces_held : {P A : Type 0} (answers : P → A → Type 0) (slots n : ℕ) (m : Me (SlotState P A) (View P)) → MayFill m.0
    → Turning (λ k y. IsUnrun answers y) IsPiece slots n m.1 → ((k : ℕ) → k < slots → spot_at m.0.board k ≡ Out) → HoldsPieces answers n m
pieces_held {P} {A} answers slots n m may t out = let q : ℕ = may.0.0 in let b : List (ℕ × Spot P) = m.0.board in let left = t.left in let done = t.done in
    let other : List (ℕ × SlotState P A) = numbered 0 t.new [] in let b' : List (ℕ × Spot P) = board_back (pieces answers) q (numbered n t.old []) b in (
      q,
      may.0.1,
      may.1,
      subst (λ (c : List (ℕ × SlotState P A)). MayPutAll (pieces answers) q c b) (sym t.hand)
          (put_on answers q n t.old other b (λ k le lt. out k (omega arith)) t.old_are
          (may_put_all answers q 0 t.new b' (λ k le lt. back_before answers q n k t.old b (omega arith) ∙ out k (omega arith))
          (λ k y e. let w = t.new_are k y e in subst (IsUnrun answers) (sym w.1) tt))),
      λ k lt. let y = there t.new k (omega arith) in let w = t.new_are k y.0 y.1 in (
        w.0,
        subst (λ (c : List (ℕ × SlotState P A)). spot_at (board_back (pieces answers) q c b) k ≡ Filled q w.0) (sym t.hand)
            (ap (λ (z : List (ℕ × Spot P)). spot_at z k) (back_on answers q n t.old other b) ∙ piece_back answers q k t.new b' w.0
            (y.1 ∙ ap (λ (z : SlotState P A). some z) w.1)),
      ),
    )
