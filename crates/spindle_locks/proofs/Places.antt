-- Places that hold finished pieces, walked from the front.
use Rattle.std.proofs.Common.{◌≡◌, Bool, true, ℕ, ◌+◌, ◌<◌, ◌≤◌, List, [], ◌∷◌, ◌++◌, length, take, drop, get_or, map, replicate, Option, Some, None, refl, ap}
use Rattle.std.proofs.Common.{sym, ◌∙◌, zero, suc, arith, add-one, length-append, slice_set}
use Rattle.std.specs.List.{AllZip}
use Rattle.std.specs.Cmp.{IsEquivalence}
use Rattle.std.specs.Cmp.Lexicographic.{pointwise, lists_equiv}
use Rattle.spindle_parts.specs.Same.{equal_lists_are_same}
use Rattle.std.proofs.lemmas.List.{take_more, take_all, append-nil}
use Rattle.std.proofs.lemmas.Slice.Zip.{AllZip-long}
use Rattle.spindle_parts.specs.declared.cut.Piece.{Piece}
use Rattle.spindle_parts.proofs.ListLaws.{joined_snoc, map_snoc}
use Rattle.spindle_parts.proofs.ListLaws.{all_zip_append}
use Rattle.spindle_locks.specs.Done.{Done}
use Rattle.spindle_locks.specs.Outputs.{HoldAll, inputs_in, all_inputs_in}
use Rattle.spindle_locks.specs.Rounds.{items_of}

-- two lists that agree do so on their first k places
pub all_zip_take : {A B : Type 0} (R : A → B → Type 0) (k : ℕ) (xs : List A) (ys : List B) → AllZip R xs ys → AllZip R (take k xs) (take k ys)
all_zip_take R zero xs ys z = tt
all_zip_take R (suc k) [] [] z = tt
all_zip_take R (suc k) [] (y ∷ ys) z = absurd z
all_zip_take R (suc k) (x ∷ xs) [] z = absurd z
all_zip_take R (suc k) (x ∷ xs) (y ∷ ys) z = (z.0, all_zip_take R k xs ys z.1)

at_last : {A B : Type 0} (R : A → B → Type 0) (k : ℕ) (xs : List A) (ys : List B) (x : A) (y : B) → k < length xs → k < length ys → AllZip R (take (suc k) xs)
    (take (suc k) ys) → R (get_or xs k x) (get_or ys k y)
at_last R k [] ys x y h h' z = absurd (omega (arith, h))
at_last R k (a ∷ xs) [] x y h h' z = absurd (omega (arith, h'))
at_last R zero (a ∷ xs) (b ∷ ys) x y h h' z = z.0
at_last R (suc k) (a ∷ xs) (b ∷ ys) x y h h' z = at_last R k xs ys x y (omega (arith, h)) (omega (arith, h')) z.1

-- two lists that agree on the first k + 1 places do so at k
pub all_zip_at : {A B : Type 0} (R : A → B → Type 0) (k : ℕ) (xs : List A) (ys : List B) (x : A) (y : B) → k < length xs → k < length ys → AllZip R
    (take (k + 1) xs) (take (k + 1) ys) → R (get_or xs k x) (get_or ys k y)
all_zip_at R k xs ys x y h h' z = at_last R k xs ys x y h h' (rw add-one at z)

-- one more place at which two lists agree
pub all_zip_more : {A B : Type 0} (R : A → B → Type 0) (k : ℕ) (xs : List A) (ys : List B) (x : A) (y : B) → k < length xs → k < length ys → AllZip R
    (take k xs) (take k ys) → R (get_or xs k x) (get_or ys k y) → AllZip R (take (k + 1) xs) (take (k + 1) ys)
all_zip_more R k xs ys x y h h' z r =
    rw (take_more xs k x h, take_more ys k y h') (all_zip_append R (take k xs) (take k ys) (get_or xs k x ∷ []) (get_or ys k y ∷ []) z (r, tt))

-- the inputs in the places are the items of the pieces that they hold
pub inputs_of_pieces : {A B : Type 0} (pieces : List (Piece A)) (places : List (Option (Done A B))) → HoldAll pieces places
    → all_inputs_in places ≡ items_of pieces
inputs_of_pieces [] [] z = refl
inputs_of_pieces [] (place ∷ places) z = absurd z
inputs_of_pieces (piece ∷ pieces) [] z = absurd z
inputs_of_pieces (piece ∷ pieces) (None ∷ places) z = absurd z.0
inputs_of_pieces (piece ∷ pieces) (Some done ∷ places) z =
    let rest = inputs_of_pieces pieces places z.1 in
    λ i. z.0.1 i ++ rest i

-- the inputs in one more place
pub inputs_more : {A B : Type 0} (places : List (Option (Done A B))) (k : ℕ) (d : Option (Done A B)) → k < length places → all_inputs_in
    (take (k + 1) places) ≡ all_inputs_in (take k places) ++ inputs_in (get_or places k d)
inputs_more places k d h =
    rw (
      take_more places k d h,
      map_snoc inputs_in (take k places) (get_or places k d),
      joined_snoc (map inputs_in (take k places))
          (inputs_in (get_or places k d)),
    ) refl

-- the first places have no more inputs than all
pub inputs_part : {A B : Type 0} (k : ℕ) (places : List (Option (Done A B))) → length (all_inputs_in (take k places)) ≤ length (all_inputs_in places)
inputs_part zero places = omega arith
inputs_part (suc k) [] = omega arith
inputs_part (suc k) (p ∷ places) =
    omega (arith, inputs_part k places, length-append (inputs_in p) (all_inputs_in places), length-append (inputs_in p) (all_inputs_in (take k places)))

-- behind the places that were emptied, each stands where it stood
pub get_or-emptied : {A : Type 0} (n : A) (k : ℕ) (xs : List A) (d : A) → k < length xs → get_or (replicate k n ++ drop k xs) k d ≡ get_or xs k d
get_or-emptied n k [] d h = absurd (omega (arith, h))
get_or-emptied n zero (x ∷ xs) d h = refl
get_or-emptied n (suc k) (x ∷ xs) d h = get_or-emptied n k xs d (omega (arith, h))

set_emptied : {A : Type 0} (n : A) (k : ℕ) (xs : List A) → k < length xs → slice_set (replicate k n ++ drop k xs) k n ≡ replicate (suc k) n ++ drop (suc k) xs
set_emptied n k [] h = absurd (omega (arith, h))
set_emptied n zero (x ∷ xs) h = refl
set_emptied n (suc k) (x ∷ xs) h = ap (λ t. n ∷ t) (set_emptied n k xs (omega (arith, h)))

-- one more place emptied
pub set-emptied : {A : Type 0} (n : A) (k : ℕ) (xs : List A) → k < length xs → slice_set (replicate k n ++ drop k xs) k n ≡ replicate (k + 1) n ++ drop
    (k + 1) xs
set-emptied n k xs h = rw add-one (set_emptied n k xs h)

-- where equal items are the same value, the comparison of two lists tells whether they are the same list
pub same_by_test : {A : Type 0} (E : A → A → Bool) → ((x y : A) → E x y ≡ true → x ≡ y) → IsEquivalence E → (xs ys : List A) (r : Bool) → r ≡ pointwise E xs ys
    → (r ≡ true → xs ≡ ys) × (xs ≡ ys → r ≡ true)
same_by_test E same laws xs ys r e =
    (λ t. equal_lists_are_same E same xs ys (sym e ∙ t), λ p. e ∙ ap (λ zs. pointwise E xs zs) (sym p) ∙ (lists_equiv laws).refl xs)

-- two lists that agree on as many places as there are agree
pub all_zip_all : {A B : Type 0} (R : A → B → Type 0) (k : ℕ) (xs : List A) (ys : List B) → length xs ≤ k → length ys ≤ k → AllZip R (take k xs) (take k ys)
    → AllZip R xs ys
all_zip_all R k xs ys h h' z = rw (take_all k xs h, take_all k ys h') at z

-- one more place's outputs answer one more place's inputs
pub outputs_more : {A B : Type 0} (R : A → B → Type 0) (places : List (Option (Done A B))) (k : ℕ) (d : Option (Done A B)) (done : Done A B)
    (room outputs : List B) → k < length places → get_or places k d ≡ Some done → AllZip R (all_inputs_in (take k places)) room → AllZip R done.inputs outputs
    → AllZip R (all_inputs_in (take (k + 1) places)) (room ++ outputs)
outputs_more R places k d done room outputs h e z w =
    rw (inputs_more places k d h, e) (all_zip_append R (all_inputs_in (take k places)) room done.inputs outputs z w)

-- an empty place has no inputs
pub nothing_more : {A B : Type 0} (R : A → B → Type 0) (places : List (Option (Done A B))) (k : ℕ) (d : Option (Done A B)) (room : List B) → k < length places
    → get_or places k d ≡ None → AllZip R (all_inputs_in (take k places)) room → AllZip R (all_inputs_in (take (k + 1) places)) room
nothing_more R places k d room h e z =
    rw (inputs_more places k d h, e, append-nil (all_inputs_in (take k places))) z

-- the outputs of one more place fit where those of all do
pub outputs_fit : {A B : Type 0} (R : A → B → Type 0) (places : List (Option (Done A B))) (k : ℕ) (room outputs : List B) → AllZip R
    (all_inputs_in (take (k + 1) places)) (room ++ outputs) → length room + length outputs ≤ length (all_inputs_in places)
outputs_fit R places k room outputs z =
    omega (arith, AllZip-long R (all_inputs_in (take (k + 1) places)) (room ++ outputs) z, length-append room outputs, inputs_part (k + 1) places)

-- what stands behind the emptied places stood there from the start
pub found_there : {A : Type 0} (places now : List (Option A)) (k : ℕ) (found taken : Option A) → now ≡ replicate k None ++ drop k places → k < length places
    → found ≡ get_or now k found → taken ≡ found → get_or places k found ≡ taken
found_there places now k found taken e h f t =
    sym (get_or-emptied None k places found h) ∙ ap (λ xs. get_or xs k found) (sym e) ∙ sym f ∙ sym t
