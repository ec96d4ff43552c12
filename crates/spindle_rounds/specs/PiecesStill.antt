-- What lists of slots and of views keep where one of them changes.
use Rattle.std.proofs.Common.{◌≡◌, ◌≢◌, ◌⊎◌, inl, inr, ⊎_elim, ℕ, zero, suc, ◌<◌, List, [], ◌∷◌}
use Rattle.std.proofs.Common.{◌++◌, map, set, length, length-set, sym, refl, ap, ◌∙◌, subst, arith}
use Rattle.std.proofs.Common.{Some}
use mathlib.Core.Option.{some, some-injective, some-ne-none}
use lib.ListN.{get_elem?}
use Rattle.spindle_parts.specs.State.{State, times}
use Rattle.atomic_table.proofs.Lists.{at_set}
use Rattle.spindle_rounds.specs.declared.round_table.view.View.{View}
use Rattle.spindle_rounds.specs.declared.round_table.view.Spot.{Spot}
use Rattle.spindle_rounds.specs.declared.round_table.view.Spot.TheVariants.{Filled}
use Rattle.spindle_rounds.specs.RoundSlots.{spot_at}
use Rattle.spindle_rounds.specs.RoundPieces.{IsRunning}

-- the place that was written holds what was written there
pub set_at : {A : Type 0} (l : List A) (i : ℕ) (a b : A) → get_elem? l i ≡ some b
    → get_elem? (set l i a) i ≡ some a
set_at [] i a b e = absurd (some-ne-none b (sym e))
set_at (x ∷ xs) zero a b e = refl
set_at (x ∷ xs) (suc i) a b e = set_at xs i a b e

-- the elements of a list, each wrapped
pub at_map : {A : Type 0} (l : List A) (i : ℕ) (a : A) → get_elem? l i ≡ some a
    → get_elem? (map some l) i ≡ some (some a)
at_map [] i a e = absurd (some-ne-none a (sym e))
at_map {A = A} (x ∷ xs) zero a e = ap (λ (z : A). some (some z)) (some-injective x a e)
at_map (x ∷ xs) (suc i) a e = at_map xs i a e

-- wrapping keeps the length
pub map_length : {A : Type 0} (l : List A) → length (map some l) ≡ length l
map_length [] = refl
map_length (x ∷ xs) = ap suc (map_length xs)

-- an element of a list with one more at its end is one of the list, or the one more
pub at_end : {A : Type 0} (l : List A) (a b : A) (j : ℕ) → get_elem? (l ++ a ∷ []) j ≡ some b
    → (get_elem? l j ≡ some b) ⊎ ((j ≡ length l) × (a ≡ b))
at_end [] a b zero e = inr (refl, some-injective a b e)
at_end [] a b (suc j) e = absurd (some-ne-none b (sym e))
at_end (x ∷ xs) a b zero e = inl e
at_end (x ∷ xs) a b (suc j) e = ⊎_elim inl
    (λ (t : (j ≡ length xs) × (a ≡ b)). inr (ap suc t.0, t.1)) (at_end xs a b j e)

module _ {P : Type 0} where
  -- the leader's view keeps its board where a view with the same board takes its place
  pub still_leads : (vs : List (View P)) (id : ℕ) (v w : View P) (board : List (ℕ × Spot P))
      → get_elem? vs id ≡ some v → w.board ≡ v.board → ((u : View P)
      → get_elem? vs 0 ≡ some u → u.board ≡ board) → (u : View P)
      → get_elem? (set vs id w) 0 ≡ some u → u.board ≡ board
  still_leads vs id v w board at same all u e =
      ⊎_elim (λ (z : (0 ≡ id) × (w ≡ u)). sym (ap (λ (y : View P). y.board) z.1) ∙ (same
      ∙ all v (subst (λ (a : ℕ). get_elem? vs a ≡ some v) (sym z.0) at)))
      (λ (z : (0 ≢ id) × (get_elem? vs 0 ≡ some u)). all u z.1) (at_set vs id 0 w u e)

  -- a write of a view leaves some views
  pub some_still : (vs : List (View P)) (id : ℕ) (w : View P) → 0 < length vs
      → 0 < length (set vs id w)
  some_still vs id w lt = let a = length-set vs id w in omega arith

  -- what a party notes of its claim
  abbrev pub Noted : State → List (ℕ × Spot P) → ℕ → View P → Type 0
  Noted s board k v = (x : P) × (v.note ≡ Some x) × (spot_at board k ≡ Filled s.round x)
      × IsRunning (s.rounds s.round) k

  -- what is noted of a claim depends on the round, two counts and the note
  pub carry : (s s' : State) (board : List (ℕ × Spot P)) (k : ℕ) (v w : View P) → s'.round ≡ s.round
      → times k (s'.rounds s.round).begun ≡ times k (s.rounds s.round).begun
      → times k (s'.rounds s.round).finished ≡ times k (s.rounds s.round).finished
      → w.note ≡ v.note → Noted s board k v → Noted s' board k w
  carry s s' board k v w r b f same n = (
    n.0,
    same ∙ n.1,
    subst (λ (a : ℕ). spot_at board k ≡ Filled a n.0) (sym r) n.2,
    (
      subst (λ (a : ℕ). 0 < times k (s'.rounds a).begun) (sym r)
          (subst (λ (a : ℕ). 0 < a) (sym b) n.3.0),
      ap (λ (a : ℕ). times k (s'.rounds a).finished) r ∙ (f ∙ n.3.1),
    ),
  )
