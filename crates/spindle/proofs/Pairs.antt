-- Parts of the pairs of two lists.
use Rattle.std.proofs.Common.{◌≡◌, ℕ, ◌-◌, List, [], ◌∷◌, length, min, take, drop, refl, ap, sym, ◌∙◌, zero, suc, arith, slice_range}
use Rattle.std.proofs.lemmas.List.{take_all, nil_from_length}
use Rattle.std.proofs.lemmas.Slice.Zip.{length-zip}
use Rattle.std.specs.List.{zip}

-- the pairs with no list
zip-nil : {A B : Type 0} (xs : List A) → zip {X = B} xs [] ≡ []
zip-nil [] = refl
zip-nil (x ∷ xs) = refl

-- the pairs of what is taken
zip-take : {A B : Type 0} (n : ℕ) (xs : List A) (ys : List B) → zip (take n xs) (take n ys) ≡ take n (zip xs ys)
zip-take zero xs ys = refl
zip-take (suc n) [] ys = refl
zip-take (suc n) (x ∷ xs) [] = refl
zip-take (suc n) (x ∷ xs) (y ∷ ys) = ap (λ t. (x, y) ∷ t) (zip-take n xs ys)

-- the pairs of what is left
zip-drop : {A B : Type 0} (n : ℕ) (xs : List A) (ys : List B) → zip (drop n xs) (drop n ys) ≡ drop n (zip xs ys)
zip-drop zero xs ys = refl
zip-drop (suc n) [] ys = refl
zip-drop (suc n) (x ∷ xs) [] = zip-nil (drop n xs)
zip-drop (suc n) (x ∷ xs) (y ∷ ys) = zip-drop n xs ys

-- the pairs of two ranges
pub zip-range : {A B : Type 0} (from to : ℕ) (xs : List A) (ys : List B)
    → zip (slice_range xs from to) (slice_range ys from to) ≡ slice_range (zip xs ys) from to
zip-range from to xs ys = zip-take (to - from) (drop from xs) (drop from ys) ∙ ap (take (to - from)) (zip-drop from xs ys)

-- the pairs of two lists, as far as both go, are all their pairs
pub zip-whole : {A B : Type 0} (n : ℕ) (xs : List A) (ys : List B) → n ≡ min (length xs) (length ys)
    → zip (slice_range xs 0 n) (slice_range ys 0 n) ≡ zip xs ys
zip-whole n xs ys e = zip-range 0 n xs ys ∙ take_all (n - 0) (zip xs ys) (omega (arith, e, length-zip xs ys))

-- no pairs, where one of the lists is empty
pub zip-none : {A B : Type 0} (n : ℕ) (xs : List A) (ys : List B) → n ≡ min (length xs) (length ys) → n ≡ 0 → zip xs ys ≡ []
zip-none n xs ys e z = nil_from_length (zip xs ys) (length-zip xs ys ∙ sym e ∙ z)
