-- A function of each number from one on.
use Rattle.std.proofs.Common.{◌≡◌, ℕ, zero, suc, ◌+◌, ◌<◌, ◌∷◌, map, refl, ap, ◌∙◌, arith}
use Rattle.spindle.specs.Pieces.{counted}

-- two functions that agree from two places on
pub same_values : {A : Type 0} (f g : ℕ → A) (n from to : ℕ) → ((i : ℕ) → i < n → f (from + i) ≡ g (to + i)) → map f (counted from n) ≡ map g (counted to n)
same_values f g zero from to e = refl
same_values f g (suc n) from to e =
    let here : from ≡ from + 0 = omega arith in
    let there : to + 0 ≡ to = omega arith in
    let first = ap f here ∙ e 0 (omega arith) ∙ ap g there in
    let later = same_values f g n (from + 1) (to + 1) (λ i lt.
    let a : from + 1 + i ≡ from + (i + 1) = omega arith in
    let b : to + (i + 1) ≡ to + 1 + i = omega arith in
    ap f a ∙ e (i + 1) (omega (arith, lt)) ∙ ap g b) in
    λ j. first j ∷ later j
