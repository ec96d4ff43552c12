-- Lists read by `get_elem?`.
use Rattle.std.proofs.Common.{◌≡◌, ◌⊎◌, inl, inr, ⊎_elim, ℕ, zero, suc, ◌<◌, List, [], ◌∷◌, ◌++◌, length, set, sym, refl, ap, arith}
use mathlib.Core.Option.{some, some-injective, some-ne-none}
use lib.ListN.{get_elem?}
use Rattle.atomic_table.proofs.Lists.{set_here}

module _ {A : Type 0} where
  pub in_list : (l : List A) (k : ℕ) (y : A) → get_elem? l k ≡ some y → k < length l
  in_list [] k y e = absurd (some-ne-none y (sym e))
  in_list (x ∷ l) zero y e = omega arith
  in_list (x ∷ l) (suc k) y e = let a = in_list l k y e in omega arith

  pub first_set : (l : List A) (u v : A) → get_elem? l 0 ≡ some v → get_elem? (set l 0 u) 0 ≡ some u
  first_set l u v e = set_here l 0 u (in_list l 0 v e)

  -- an element of a list with one more at its end
  pub at_end : (l : List A) (a b : A) (j : ℕ) → get_elem? (l ++ a ∷ []) j ≡ some b → (get_elem? l j ≡ some b) ⊎ ((j ≡ length l) × (a ≡ b))
  at_end [] a b zero e = inr (refl, some-injective a b e)
  at_end [] a b (suc j) e = absurd (some-ne-none b (sym e))
  at_end (x ∷ xs) a b zero e = inl e
  at_end (x ∷ xs) a b (suc j) e = ⊎_elim inl (λ (t : (j ≡ length xs) × (a ≡ b)). inr (ap suc t.0, t.1)) (at_end xs a b j e)
