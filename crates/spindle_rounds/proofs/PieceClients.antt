-- What the leader's loops over its slots need: what stands where once all are out, and once they are back.
-- After `take_slots` all_out says of the board that every slot is out, and numbered_at finds a slot in the hand. published_last makes
-- HasPublished of the last publish in the trail.
use Rattle.std.proofs.Common.{◌≡◌, inl, inr, ⊎_elim, ℕ, zero, suc, ◌+◌, ◌<◌, ◌≤◌, Bool, false, List, [], ◌∷◌, ◌++◌, length, sym, refl, ap, ◌∙◌, subst, arith}
use mathlib.Core.Logic.{dite}
use mathlib.Core.Option.{some, some-injective, some-ne-none}
use native.Mathlib.Decide.{ℕ_discrete}
use lib.ListN.{get_elem?}
use Rattle.atomic_table.specs.Table.{Me}
use Rattle.spindle_rounds.specs.declared.round_table.view.View.{View}
use Rattle.spindle_rounds.specs.declared.round_table.view.Spot.{Spot}
use Rattle.spindle_rounds.specs.declared.round_table.view.Spot.TheVariants.{Out, Filled}
use Rattle.spindle_rounds.specs.declared.round_table.pieces.SlotState.{SlotState}
use Rattle.spindle_rounds.specs.declared.round_table.pieces.SlotState.TheVariants.{Waits}
use Rattle.spindle_rounds.specs.RoundSlots.{spot_at}
use Rattle.spindle_rounds.specs.RoundShown.{Deed, Showed, deeds_of}
use Rattle.spindle_rounds.specs.RoundViews.{shown_of, published_of}
use Rattle.spindle_rounds.specs.RoundConditions.{MayPutAll}
use Rattle.spindle_rounds.specs.SlotSteps.{numbered, board_out, board_back, IsDeed, HasPublished, IsSure, TakenOut}
use Rattle.spindle_rounds.specs.SpotPlaces.{spot_here, spot_else}
use Rattle.spindle_rounds.specs.RoundPieces.{pieces, spot_with, IsUnrun, IsAtHand, Answered, AreFilled, AreAnswered}

-- a publish among the publishes is among the deeds
pub shown_deed : (r n : ℕ) (b : Bool) (ds : List Deed) → IsDeed (Showed r n b) (shown_of ds) → IsDeed (Showed r n b) ds
shown_deed r n b [] e = e
shown_deed r n b (Showed q m c ∷ ds) e = ⊎_elim inl (λ z. inr (shown_deed r n b ds z)) e
shown_deed r n b (_ ∷ ds) e = inr (shown_deed r n b ds e)

-- the round that a leader published last, plainly
pub published_last : {N : Type 0} (v : View N) (r n : ℕ) (older : List Deed) → published_of v.trail ≡ Showed r n false ∷ older → HasPublished v r n
published_last v r n older is = shown_deed r n false (deeds_of v.trail) (subst (IsDeed (Showed r n false)) (sym is) (inl refl))

module _ {X : Type 0} where
  -- the slots from i on, each under its number
  pub numbered_at : (ys : List X) (i k : ℕ) (c : List (ℕ × X)) (y : X) → get_elem? ys k ≡ some y → get_elem? (numbered i ys c) k ≡ some (i + k, y)
  numbered_at [] i k c y e = absurd (some-ne-none y (sym e))
  numbered_at (z ∷ ys) i zero c y e = let at : i ≡ i + 0 = omega arith in let same = some-injective z y e in λ j. some (at j, same j)
  numbered_at (z ∷ ys) i (suc k) c y e = let at : i + 1 + k ≡ i + suc k = omega arith in
      numbered_at ys (i + 1) k c y e ∙ ap (λ (j : ℕ). let z : ℕ × X = (j, y) in some z) at

  pub there : (ys : List X) (k : ℕ) → k < length ys → (y : X) × (get_elem? ys k ≡ some y)
  there [] k lt = absurd (omega arith)
  there (y ∷ ys) zero lt = (y, refl)
  there (y ∷ ys) (suc k) lt = there ys k (omega arith)

  -- there is one value at the hand
  pub one_at_hand : (c : List (ℕ × X)) (k : ℕ) (y z : X) → IsAtHand k y c → IsAtHand k z c → y ≡ z
  one_at_hand c k y z a b = let first : (k, y) ≡ (k, z) = cc in ap (λ (p : ℕ × X). p.1) first

  -- behind the slots from i on
  numbered_behind : (i : ℕ) (ys : List X) (c d : List (ℕ × X)) → numbered i ys c ++ d ≡ numbered i ys (c ++ d)
  numbered_behind i [] c d = refl
  numbered_behind i (y ∷ ys) c d = ap (λ (l : List (ℕ × X)). let z : List (ℕ × X) = (i, y) ∷ l in z) (numbered_behind (i + 1) ys c d)

  pub numbered_end : (i : ℕ) (ys : List X) (y : X) (c : List (ℕ × X)) → numbered i ys ((i + length ys, y) ∷ c) ≡ numbered i (ys ++ y ∷ []) c
  numbered_end i [] y c = ap (λ (j : ℕ). let z : List (ℕ × X) = (j, y) ∷ c in z) (omega arith)
  numbered_end i (x ∷ xs) y c = let at : i + suc (length xs) ≡ i + 1 + length xs = omega arith in
      ap (λ (l : List (ℕ × X)). let z : List (ℕ × X) = (i, x) ∷ l in z)
      (ap (λ (j : ℕ). numbered (i + 1) xs ((j, y) ∷ c)) at ∙ numbered_end (i + 1) xs y c)

  -- the loop's slots: those from i on as they were, and then those before i with their new values
  abbrev pub turned_at : ℕ → List X → List X → List (ℕ × X)
  turned_at i old new = numbered i old (numbered 0 new [])

  -- one slot more has its new value, and goes behind the others
  pub turned_on : (i : ℕ) (old new : List X) (z : X) → length new ≡ i → turned_at (i + 1) old new ++ (i, z) ∷ [] ≡ turned_at (i + 1) old (new ++ z ∷ [])
  turned_on i old new z is = let at : i ≡ 0 + length new = omega arith in numbered_behind (i + 1) old (numbered 0 new []) ((i, z) ∷ [])
      ∙ ap (numbered (i + 1) old) (numbered_behind 0 new [] ((i, z) ∷ [])
      ∙ (ap (λ (j : ℕ). numbered 0 new ((j, z) ∷ [])) at ∙ numbered_end 0 new z []))

module _ {N : Type 0} where
  -- once the first n slots are out
  out_below : (n k : ℕ) (b : List (ℕ × Spot N)) → spot_at b k ≡ Out → spot_at (board_out n b) k ≡ Out
  out_below zero k b e = e
  out_below (suc n) k b e = out_below n k ((n, Out) ∷ b) (dite (ℕ_discrete k n)
      (λ z. subst (λ (j : ℕ). spot_at ((n, Out) ∷ b) j ≡ Out) (sym z) (spot_here b n Out)) (λ other. spot_else b n k Out other ∙ e))

  pub all_out : (n k : ℕ) (b : List (ℕ × Spot N)) → k < n → spot_at (board_out n b) k ≡ Out
  all_out zero k b lt = absurd (omega arith)
  all_out (suc n) k b lt = dite (ℕ_discrete k n) (λ z. out_below n k ((n, Out) ∷ b)
      (subst (λ (j : ℕ). spot_at ((n, Out) ∷ b) j ≡ Out) (sym z) (spot_here b n Out)))
      (λ other. all_out n k ((n, Out) ∷ b) (omega arith))

module _ {P A : Type 0} (answers : P → A → Type 0) where
  abbrev Slot : Type 0
  Slot = SlotState P A

  abbrev Board : Type 0
  Board = List (ℕ × Spot P)

  abbrev back : ℕ → ℕ → List Slot → Board → Board
  back q i ys b = board_back (pieces answers) q (numbered i ys []) b

  -- slots that are out may go back with what wasn't run
  pub may_put_all : (q i : ℕ) (ys : List Slot) (b : Board) → ((k : ℕ) → i ≤ k → k < i + length ys → spot_at b k ≡ Out)
      → ((k : ℕ) (y : Slot) → get_elem? ys k ≡ some y → IsUnrun answers y) → MayPutAll (pieces answers) q (numbered i ys []) b
  may_put_all q i [] b out unrun = tt
  may_put_all q i (y ∷ ys) b out unrun = (
    (out i (omega arith) (omega arith), unrun 0 y refl),
    may_put_all q (i + 1) ys ((i, spot_with answers q y) ∷ b)
        (λ k le lt. spot_else b i k (spot_with answers q y) (λ e. omega arith) ∙ out k (omega arith) (omega arith)) (λ k z e. unrun (suc k) z e),
  )

  -- what stands before them is as it was
  pub back_before : (q i j : ℕ) (ys : List Slot) (b : Board) → j < i → spot_at (back q i ys b) j ≡ spot_at b j
  back_before q i j [] b lt = refl
  back_before q i j (y ∷ ys) b lt = back_before q (i + 1) j ys ((i, spot_with answers q y) ∷ b) (omega arith) ∙ spot_else b i j (spot_with answers q y)
      (λ e. omega arith)

  pub back_at : (q i k : ℕ) (ys : List Slot) (b : Board) (y : Slot) → get_elem? ys k ≡ some y → spot_at (back q i ys b) (i + k) ≡ spot_with answers q y
  back_at q i k [] b y e = absurd (some-ne-none y (sym e))
  back_at q i zero (z ∷ ys) b y e = let at : i ≡ i + 0 = omega arith in let w : Board = (i, spot_with answers q z) ∷ b in
      subst (λ (j : ℕ). spot_at (back q (i + 1) ys w) j ≡ spot_with answers q y) at
      (back_before q (i + 1) i ys w (omega arith) ∙ (spot_here b i (spot_with answers q z) ∙ ap (spot_with answers q) (some-injective z y e)))
  back_at q i (suc k) (z ∷ ys) b y e = let at : i + 1 + k ≡ i + suc k = omega arith in let w : Board = (i, spot_with answers q z) ∷ b in
      subst (λ (j : ℕ). spot_at (back q (i + 1) ys w) j ≡ spot_with answers q y) at (back_at q (i + 1) k ys w y e)

  -- each piece that went back stands on the board, in this round
  pub piece_back : (q k : ℕ) (ys : List Slot) (b : Board) (x : P) → get_elem? ys k ≡ some (Waits x) → spot_at (back q 0 ys b) k ≡ Filled q x
  piece_back q k ys b x e = let at : 0 + k ≡ k = omega arith in subst (λ (j : ℕ). spot_at (back q 0 ys b) j ≡ Filled q x) at (back_at q 0 k ys b (Waits x) e)

  -- after the round that the leader published the slots below its number hold answers to its pieces
  pub all_answered : (slots found n r : ℕ) (m w : Me Slot (View P)) → TakenOut (pieces answers) slots found m w → n ≤ slots → HasPublished m.0 r n
      → AreFilled answers r n m.0.board → AreAnswered answers n m.0.board w.1
  all_answered slots found n r m w t few shown filled k lt = let at : 0 + k ≡ k = omega arith in let ys : List Slot = t.0 in let many = t.1 in
      let y = there ys k (omega arith) in let put = filled k lt in let x : P = put.0 in let d = subst (λ (p : Spot P). Answered answers p y.0) put.1
      ((t.3 k y.0 y.1).1 (subst (λ (p : Spot P). IsSure m.0 k p) (sym put.1) (n, lt, shown))) in (
        r,
        x,
        d.0,
        put.1,
        ap (λ (c : List (ℕ × Slot)). get_elem? c k) (ap (λ (z : Me Slot (View P)). z.1) t.2) ∙ (numbered_at ys 0 k m.1 y.0 y.1 ∙ λ i. some (at i, d.1 i)),
        d.2,
      )
