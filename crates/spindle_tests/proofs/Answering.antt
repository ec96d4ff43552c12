-- What follows from answers that hold place by place.
use Rattle.std.proofs.Common.{◌≡◌, List, [], ◌∷◌, refl}
use Rattle.std.specs.List.{AllZip}
use Rattle.spindle_tests.specs.Callers.{IsFunction}

-- two lists of answers to the same items, where each item has one answer
pub AllZip-function : {A B : Type 0} (R : A → B → Type 0) → IsFunction R → (xs : List A) (ys zs : List B) → AllZip R xs ys → AllZip R xs zs → ys ≡ zs
AllZip-function R f [] [] [] y z = refl
AllZip-function R f [] (b ∷ ys) zs y z = absurd y
AllZip-function R f [] [] (c ∷ zs) y z = absurd z
AllZip-function R f (a ∷ xs) [] zs y z = absurd y
AllZip-function R f (a ∷ xs) (b ∷ ys) [] y z = absurd z
AllZip-function R f (a ∷ xs) (b ∷ ys) (c ∷ zs) y z =
    let same = f a b c y.0 z.0 in
    let rest = AllZip-function R f xs ys zs y.1 z.1 in
    λ i. same i ∷ rest i
