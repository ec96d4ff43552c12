-- From the numbers that `rayon` runs over to those that a caller is told of.
use Rattle.std.proofs.Common.{◌≡◌, ℕ, ◌∷◌, ◌+◌, zero, suc, refl, ap, arith, ◌∙◌}
use Rattle.std.specs.List.{range_with_len}
use Rattle.rayon.specs.Numbers.{nat_range}
use Rattle.spindle_parts.specs.Pieces.{counted}

range_with_len-counted : (a n : ℕ) → range_with_len a n ≡ counted a n
range_with_len-counted a zero = refl
range_with_len-counted a (suc n) = ap (λ l. a ∷ l) (range_with_len-counted (a + 1) n)

-- the numbers from 0 up to n
pub nat_range-counted : (a b n : ℕ) → a ≡ 0 → b ≡ n → nat_range a b ≡ counted 0 n
nat_range-counted a b n from to = rw (from, to) (ap (range_with_len 0) (omega arith) ∙ range_with_len-counted 0 n)
