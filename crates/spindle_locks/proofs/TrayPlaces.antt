-- The places of a tray: what stands at the one that is written, and at the others.
use Rattle.std.proofs.Common.{◌≡◌, ◌≢◌, ℕ, ◌+◌, ◌<◌, ◌≤◌, subst, ⊎_elim, List, [], ◌∷◌, ◌++◌, length, take, get_or, map, slice_set, Some}
use Rattle.std.proofs.Common.{refl, ap, sym, ◌∙◌, zero, suc, arith}
use Rattle.std.specs.Prelude.{◌↔◌, option_and_then, slice_get, unwrap_or}
use Rattle.std.proofs.lemmas.List.{take_more, take_more_set, take_all}
use Rattle.std.proofs.lemmas.Bool.{cases_lt}
use Rattle.std.proofs.lemmas.Option.{slice_get-get_or, slice_get_past, unwrap_or-slice_get}
use Rattle.spindle_locks.specs.Done.{Given, Done}
use Rattle.spindle_locks.specs.declared.pieces.place.Place.{Place}
use Rattle.spindle_locks.specs.Outputs.{IsDoneOf}
use Rattle.spindle_locks.specs.PieceRuns.{piece_at}
use Rattle.spindle_locks.specs.Trays.{brought_to, IsDoneAt, HoldsDone}
use Rattle.spindle_parts.proofs.ListLaws.{map_snoc}

-- what stands at the others
pub at_others : {A : Type 0} (xs : List A) (at : ℕ) (t : A) (k : ℕ) → k ≢ at → slice_get (slice_set xs at t) k ≡ slice_get xs k
at_others [] at t k n = refl
at_others (x ∷ xs) zero t zero n = absurd (n refl)
at_others (x ∷ xs) zero t (suc k) n = refl
at_others (x ∷ xs) (suc at) t zero n = refl
at_others (x ∷ xs) (suc at) t (suc k) n = at_others xs at t k (λ e. n (ap suc e))

pub some_is : {A : Type 0} {x y : A} → Some x ≡ Some y → x ≡ y
some_is e = cc

-- what is told of what stands at a place is told of the place
pub told_at : {A B P : Type 0} (items run : List A) (pieces n at : ℕ) (now old : List (Place (Given A) (Done A B))) (place : Place (Given A) (Done A B))
    → at < length now → place ≡ get_or now at place → slice_get now at ≡ slice_get old at → run ≡ piece_at items pieces n
    → (P ↔ IsDoneOf n run (brought_to place)) → P ↔ IsDoneAt items pieces n at old
told_at {P = P} items run pieces n at now old place h e same is told =
    let found = ap (option_and_then brought_to) (sym same ∙ slice_get-get_or now at place h ∙ ap (λ x. Some x) (sym e)) in
    subst (λ xs. P ↔ IsDoneOf n xs (option_and_then brought_to (slice_get old at))) is (subst (λ done. P ↔ IsDoneOf n run done) (sym found) told)

-- behind the end nothing is held
pub none_past : {A B : Type 0} (items : List A) (pieces n at : ℕ) (now old : List (Place (Given A) (Done A B))) → length now ≤ at
    → slice_get now at ≡ slice_get old at → ¬ (IsDoneAt items pieces n at old)
none_past items pieces n at now old h same held =
    subst (λ found. IsDoneOf n (piece_at items pieces n) (option_and_then brought_to found)) (sym same ∙ slice_get_past now at h) held

-- one more place is filled
pub one_more_waits : {X : Type 0} (w : ℕ → X) (own : List ℕ) (places : List X) (k n : ℕ) → slice_get own k ≡ Some n → k < length own → k < length places
    → take k places ≡ map w (take k own) → take (k + 1) (slice_set places k (w n)) ≡ map w (take (k + 1) own)
one_more_waits w own places k n e h h' z =
    let here : get_or own k 0 ≡ n = sym (unwrap_or-slice_get own k 0) ∙ ap (λ found. unwrap_or found 0) e in
    rw (take_more own k 0 h, here, take_more_set places k (w n) h', map_snoc w (take k own) n) (ap (λ t. t ++ w n ∷ []) z)

-- where all places are filled, all that is dealt waits
pub all_wait : {X : Type 0} (w : ℕ → X) (own : List ℕ) (places : List X) (len k : ℕ) → len ≡ length own → len ≤ k → k ≤ len → take k places ≡ map w (take k own)
    → take (length own) places ≡ map w own
all_wait w own places len k e h h' z = let end : k ≡ length own = omega (arith, e, h, h') in rw (take_all k own (omega (arith, end)), end) at z

-- one more place holds its piece, run
pub one_more_done : {A B : Type 0} (items : List A) (pieces number from k : ℕ) (places : List (Place (Given A) (Done A B)))
    → HoldsDone items pieces number from k places → IsDoneAt items pieces (number + k) (from + k) places
    → HoldsDone items pieces number from (k + 1) places
one_more_done items pieces number from k places before here i lt =
    ⊎_elim (before i) (λ (le : k ≤ i). let e : k ≡ i = omega (arith, le, lt) in
    subst (λ (j : ℕ). IsDoneAt items pieces (number + j) (from + j) places) e here) (cases_lt i k)
