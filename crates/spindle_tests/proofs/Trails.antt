-- A number of which two trails tell stands twice among what all trails tell.
use Rattle.std.proofs.Common.{◌≡◌, ◌≢◌, ℕ, zero, suc, ◌+◌, ◌<◌, ◌≤◌, eq-eqb, List, [], ◌∷◌, ◌++◌, length, slice_index_or, sym, refl, ap, subst, arith}
use Rattle.std.proofs.Common.{if◌then◌else◌}
use mathlib.Core.Option.{some, some-injective, some-ne-none}
use lib.ListN.{get_elem?}
use Rattle.spindle_parts.specs.State.{times}
use Rattle.spindle_rounds.specs.declared.round_table.view.View.{View}
use Rattle.spindle_rounds.specs.RoundShown.{Deed, Began, deeds_of}
use Rattle.spindle_rounds.specs.RoundTrails.{begun_by, told, told_by_all}
use Rattle.spindle_tests.specs.Callers.{TellsOf}

times_cat : (k : ℕ) (xs ys : List ℕ) → times k (xs ++ ys) ≡ times k xs + times k ys
times_cat k [] ys = omega arith
times_cat k (x ∷ xs) ys = let a = times_cat k xs ys in omega arith

module _ (r k : ℕ) where
  -- the deed itself
  itself : (d : Deed) → d ≡ Began r k → times k (begun_by r d) ≡ 1
  itself d e =
      let a = ap (λ (d : Deed). times k (begun_by r d)) e in
      let b = ap (λ b. times k (if b then k ∷ [] else [])) (eq-eqb r r refl) in
      let c = ap (λ b. (if b then 1 else 0) + 0) (eq-eqb k k refl) in
      omega arith

  -- a begin that stands among deeds is told
  among : (ds : List Deed) (i : ℕ) → i < length ds → slice_index_or ds i (Began r k) ≡ Began r k → 0 < times k (told (begun_by r) ds)
  among [] i lt e = absurd (omega arith)
  among (d ∷ ds) zero lt e = let a = itself d e in let b = times_cat k (begun_by r d) (told (begun_by r) ds) in omega arith
  among (d ∷ ds) (suc i) lt e = let a = among ds i (omega arith) e in let b = times_cat k (begun_by r d) (told (begun_by r) ds) in omega arith

module _ {N : Type 0} (r k : ℕ) where
  abbrev all : List (View N) → ℕ
  all vs = times k (told_by_all (begun_by r) vs)

  abbrev one : View N → ℕ
  one v = times k (told (begun_by r) (deeds_of v.trail))

  cons : (v : View N) (vs : List (View N)) → all (v ∷ vs) ≡ one v + all vs
  cons v vs = times_cat k (told (begun_by r) (deeds_of v.trail)) (told_by_all (begun_by r) vs)

  own : (u v : View N) → some u ≡ some v → TellsOf r k v → 0 < one u
  own u v e tells = subst (λ w. 0 < one w) (sym (some-injective u v e)) (among r k (deeds_of v.trail) tells.0 tells.1 tells.2)

  told_once : (vs : List (View N)) (p : ℕ) (v : View N) → get_elem? vs p ≡ some v → TellsOf r k v → 0 < all vs
  told_once [] p v at tells = absurd (some-ne-none v (sym at))
  told_once (u ∷ us) zero v at tells = let a = own u v at tells in let c = cons u us in omega arith
  told_once (u ∷ us) (suc p) v at tells = let a = told_once us p v at tells in let c = cons u us in omega arith

  pub told_twice : (vs : List (View N)) (p q : ℕ) (v w : View N) → p ≢ q → get_elem? vs p ≡ some v → get_elem? vs q ≡ some w
      → TellsOf r k v → TellsOf r k w → 2 ≤ all vs
  told_twice [] p q v w apart at_p at_q by_v by_w = absurd (some-ne-none v (sym at_p))
  told_twice (u ∷ us) zero zero v w apart at_p at_q by_v by_w = absurd (apart refl)
  told_twice (u ∷ us) zero (suc q) v w apart at_p at_q by_v by_w =
      let a = own u v at_p by_v in let b = told_once us q w at_q by_w in let c = cons u us in omega arith
  told_twice (u ∷ us) (suc p) zero v w apart at_p at_q by_v by_w =
      let a = own u w at_q by_w in let b = told_once us p v at_p by_v in let c = cons u us in omega arith
  told_twice (u ∷ us) (suc p) (suc q) v w apart at_p at_q by_v by_w =
      let a = told_twice us p q v w (λ e. apart (ap suc e)) at_p at_q by_v by_w in let c = cons u us in omega arith
