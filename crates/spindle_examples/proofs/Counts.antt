-- How many numbers of a table pass a test.
use Rattle.std.proofs.Common.{◌≡◌, ℕ, zero, suc, ◌+◌, ◌≤◌, Bool, true, false, cond, ltb, List, [], ◌∷◌, length, map, count_by, IsPermutation, refl, ap}
use Rattle.std.proofs.Common.{◌∙◌, arith}
use Rattle.std.specs.List.{AllZip}
use Rattle.std.specs.List.Sorted.{IsNonDecreasing, IsPartitionPoint}
use Rattle.std.proofs.lemmas.List.Sorted.{sum_by-IsPermutation}
use Rattle.std.proofs.lemmas.List.Sums.{sum_by-cons}
use Rattle.spindle_examples.specs.Ranks.{rank, IsRankOf}

module _ (p : ℕ → Bool) where
  abbrev passes : ℕ → ℕ
  passes x = cond (p x) 1 0

  -- where all before a place pass, and none from there on, as many pass as stand before it
  pub count_to : (xs : List ℕ) (i : ℕ) → i ≤ length xs → IsPartitionPoint (λ y. p y ≡ true) (λ y. p y ≡ false) xs i → count_by p xs ≡ i
  count_to [] zero le point = refl
  count_to [] (suc i) le point = absurd (omega (arith, le))
  count_to (x ∷ xs) zero le point =
      let here : p x ≡ false = point.1 0 x (omega arith) (omega arith) in
      let later = count_to xs zero (omega arith) (
        (λ k d low high. absurd (omega (arith, high))),
        (λ k d low high. point.1 (suc k) d (omega arith) (omega (arith, high))),
      ) in
      let first : count_by p (x ∷ xs) ≡ 0 + count_by p xs = sum_by-cons passes x xs ∙ ap (λ b. cond b 1 0 + count_by p xs) here in
      omega (arith, first, later)
  count_to (x ∷ xs) (suc i) le point =
      let here : p x ≡ true = point.0 0 x (omega arith) (omega arith) in
      let later = count_to xs i (omega (arith, le)) (
        (λ k d low high. point.0 (suc k) d (omega arith) (omega (arith, high))),
        (λ k d low high. point.1 (suc k) d (omega (arith, low)) (omega (arith, high))),
      ) in
      let first : count_by p (x ∷ xs) ≡ 1 + count_by p xs = sum_by-cons passes x xs ∙ ap (λ b. cond b 1 0 + count_by p xs) here in
      omega (arith, first, later)

-- the order of the numbers doesn't matter
pub rank-permutation : (xs ys : List ℕ) → IsPermutation xs ys → (key : ℕ) → rank ys key ≡ rank xs key
rank-permutation xs ys same key = sum_by-IsPermutation (λ x. cond (ltb x key) 1 0) xs ys same

-- what is answered to keys in one table that ascends
pub ranked : (table keys ranks : List ℕ) → IsNonDecreasing table → AllZip (IsRankOf table) keys ranks
    → ranks ≡ map (rank table) keys
ranked table [] [] up all = refl
ranked table [] (r ∷ ranks) up all = absurd all
ranked table (key ∷ keys) [] up all = absurd all
ranked table (key ∷ keys) (r ∷ ranks) up all =
    let here = all.0 up in let later = ranked table keys ranks up all.1 in λ i. here i ∷ later i
