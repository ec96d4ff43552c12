-- Lists compared place by place, and lists cut into runs.
use Rattle.std.proofs.Common.{◌≡◌, ℕ, ◌+◌, ◌≤◌, List, [], ◌∷◌, ◌++◌, length, take, drop, refl, ap, sym, ◌∙◌, suc, Bool, ◌&&◌, arith, ◌-◌, slice_range}
use Rattle.std.proofs.lemmas.List.{drop-take, drop-drop, take-take, length-take-le, length-drop}
use Rattle.std.proofs.Math.Bool.{and-true, and_assoc}
use Rattle.std.specs.Cmp.Lexicographic.{pointwise}
use Rattle.spindle_parts.specs.Pieces.{total}

-- one more place compared
pub pointwise_snoc : {A : Type 0} (E : A → A → Bool) (xs ys : List A) (x y : A) → length xs ≡ length ys
    → pointwise E (xs ++ x ∷ []) (ys ++ y ∷ []) ≡ pointwise E xs ys && E x y
pointwise_snoc E [] [] x y e = and-true (E x y)
pointwise_snoc E (a ∷ xs) (b ∷ ys) x y e =
    ap (λ t. E a b && t) (pointwise_snoc E xs ys x y (omega (arith, e))) ∙ sym (and_assoc (E a b) (pointwise E xs ys) (E x y))
pointwise_snoc E xs ys x y e = absurd (omega (arith, e))

-- a part of the sum is at most the sum
pub total_part : (i : ℕ) (ls : List ℕ) → total (take i ls) ≤ total ls
total_part (suc i) (l ∷ ls) = omega (arith, total_part i ls)
total_part i ls = omega arith

-- a range within a range
pub slice_range-slice_range : {A : Type 0} (xs : List A) (f t a b : ℕ) → a ≤ b → f + b ≤ t
    → slice_range (slice_range xs f t) a b ≡ slice_range xs (f + a) (f + b)
slice_range-slice_range xs f t a b h k =
    let m = t - f - a in
    let e : t - f ≡ a + m = omega arith in
    let n : f + b - (f + a) ≡ b - a = omega arith in
    rw (e, drop-take a m (drop f xs), drop-drop a f xs, take-take (b - a) m (drop (f + a) xs) (omega arith), n) refl

-- how long a range is
pub length-range : {A : Type 0} (xs ys : List A) (f t : ℕ) → slice_range xs f t ≡ ys → t ≤ length xs → length ys ≡ t - f
length-range xs ys f t e h =
    let l : length (take (t - f) (drop f xs)) ≡ t - f = length-take-le (t - f) (drop f xs) (omega (arith, length-drop f xs)) in
    omega (arith, l, ap length e)
