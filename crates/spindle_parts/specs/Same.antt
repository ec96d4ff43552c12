-- Where equal parts are the same value, equal lists and equal pairs are the same value.
use Rattle.std.specs.Prelude.{◌≡◌, Bool, true, ◌&&◌, List, [], ◌∷◌, refl}
use Rattle.std.specs.Cmp.Lexicographic.{pointwise}
use Rattle.std.specs.Cmp.{first_so, second_so}
use mathlib.Core.Path.{sym}
use mathlib.Core.Bool.{true≢false}

-- of lists
pub equal_lists_are_same : {T : Type 0} (E : T → T → Bool) → ((x y : T) → E x y ≡ true → x ≡ y)
    → (xs ys : List T) → pointwise E xs ys ≡ true → xs ≡ ys
equal_lists_are_same E same [] [] e = refl
equal_lists_are_same E same [] (y ∷ ys) e = absurd (true≢false (sym e))
equal_lists_are_same E same (x ∷ xs) [] e = absurd (true≢false (sym e))
equal_lists_are_same E same (x ∷ xs) (y ∷ ys) e =
    let first = same x y (first_so (E x y) (pointwise E xs ys) e) in
    let rest = equal_lists_are_same E same xs ys (second_so (E x y) (pointwise E xs ys) e) in
    λ i. first i ∷ rest i

-- of pairs
pub equal_pairs_are_same : {A B : Type 0} (E : A → A → Bool) (F : B → B → Bool)
    → ((x y : A) → E x y ≡ true → x ≡ y) → ((x y : B) → F x y ≡ true → x ≡ y)
    → (x y : A × B) → E x.0 y.0 && F x.1 y.1 ≡ true → x ≡ y
equal_pairs_are_same E F same_first same_second x y e =
    let first = same_first x.0 y.0 (first_so (E x.0 y.0) (F x.1 y.1) e) in
    let second = same_second x.1 y.1 (second_so (E x.0 y.0) (F x.1 y.1) e) in
    λ i. (first i, second i)

-- of lists, where equality is read off the goal: the law of shared lists and of runs, whatever their items are
pub law_of_lists : {T : Type 0} {E : T → T → Bool} → ((x y : T) → E x y ≡ true → x ≡ y)
    → (xs ys : List T) → pointwise E xs ys ≡ true → xs ≡ ys
law_of_lists {E = E} same = equal_lists_are_same E same
