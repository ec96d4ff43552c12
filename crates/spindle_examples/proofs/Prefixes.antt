-- Sums from a start, run by run.
use Rattle.std.proofs.Common.{◌≡◌, ℕ, suc, ◌+◌, List, [], ◌∷◌, ◌++◌, Some, None, length, map, sum, take, refl, ap, sym, ◌∙◌, arith}
use Rattle.std.proofs.lemmas.List.Sums.{sum_by-append, sum_by-cons}
use Rattle.spindle.specs.Pieces.{joined}
use Rattle.spindle.proofs.ListLaws.{joined_snoc}
use Rattle.spindle_examples.specs.Prefix.{asked_of, running, answers_to, continued}
use Rattle.spindle_examples.specs.Wrapping.{wrapped}
use Rattle.spindle_examples.proofs.Numbers.{same_values}
use Rattle.spindle_examples.proofs.Wrapped.{wrapped_part, wrapped_parts}

-- the same sums, one after the other
abbrev steps : (start : ℕ) → List ℕ → List ℕ
steps start [] = []
steps start (x ∷ xs) = wrapped (start + x) ∷ steps (start + x) xs

running-steps : (start : ℕ) (xs : List ℕ) → running start xs ≡ steps start xs
running-steps start [] = refl
running-steps start (x ∷ xs) =
    let f : ℕ → ℕ = λ at. wrapped (start + sum (take (at + 1) (x ∷ xs))) in
    let g : ℕ → ℕ = λ at. wrapped (start + x + sum (take (at + 1) xs)) in
    let first : start + sum (x ∷ []) ≡ start + x = omega (arith, sum_by-cons (λ k. k) x []) in
    let later = same_values f g (length xs) 1 0 (λ i lt.
    let at : 1 + i + 1 ≡ suc (i + 1) = omega arith in
    let more : start + sum (x ∷ take (i + 1) xs) ≡ start + x + sum (take (i + 1) xs) = omega (arith, sum_by-cons (λ k. k) x (take (i + 1) xs)) in
    let place : i + 1 ≡ 0 + i + 1 = omega arith in
    ap (λ k. wrapped (start + sum (take k (x ∷ xs)))) at ∙ ap wrapped more ∙ ap (λ k. wrapped (start + x + sum (take k xs))) place) in
    (λ i. wrapped (first i) ∷ later i) ∙ ap (λ l. wrapped (start + x) ∷ l) (running-steps (start + x) xs)

steps-append : (start : ℕ) (xs ys : List ℕ) → steps start (xs ++ ys) ≡ steps start xs ++ steps (start + sum xs) ys
steps-append start [] ys = let none : start ≡ start + sum [] = omega arith in ap (λ k. steps k ys) none
steps-append start (x ∷ xs) ys =
    let more : start + x + sum xs ≡ start + sum (x ∷ xs) = omega (arith, sum_by-cons (λ k. k) x xs) in
    ap (λ l. wrapped (start + x) ∷ l) (steps-append (start + x) xs ys ∙ ap (λ k. steps (start + x) xs ++ steps k ys) more)

-- sums of two lists, one behind the other
pub running-append : (start : ℕ) (xs ys : List ℕ) → running start (xs ++ ys) ≡ running start xs ++ running (start + sum xs) ys
running-append start xs ys =
    running-steps start (xs ++ ys)
    ∙ steps-append start xs ys
    ∙ ap (λ l. l ++ steps (start + sum xs) ys) (sym (running-steps start xs))
    ∙ ap (λ l. running start xs ++ l) (sym (running-steps (start + sum xs) ys))

-- one value more
pub running_snoc : (start : ℕ) (xs : List ℕ) (x : ℕ) → running start (xs ++ x ∷ []) ≡ running start xs ++ wrapped (start + sum xs + x) ∷ []
running_snoc start xs x =
    let one : start + sum xs + sum (x ∷ []) ≡ start + sum xs + x = omega (arith, sum_by-cons (λ k. k) x []) in
    running-append start xs (x ∷ []) ∙ ap (λ k. running start xs ++ wrapped k ∷ []) one

-- 64 bits of a start give the same sums
running-wrapped : (start : ℕ) (xs : List ℕ) → running (wrapped start) xs ≡ running start xs
running-wrapped start xs =
    same_values (λ at. wrapped (wrapped start + sum (take (at + 1) xs))) (λ at. wrapped (start + sum (take (at + 1) xs))) (length xs) 0 0
    (λ i lt. wrapped_part start (sum (take (0 + i + 1) xs)))

-- one run more
pub continued_snoc : (start : ℕ) (runs : List (List ℕ)) (run : List ℕ) → continued start (runs ++ run ∷ [])
    ≡ continued start runs ++ asked_of (Some (wrapped (start + sum (joined runs)))) run ∷ []
continued_snoc start [] run = let none : start ≡ start + sum [] = omega arith in ap (λ k. asked_of (Some (wrapped k)) run ∷ []) none
continued_snoc start (r ∷ runs) run =
    let more : start + sum r + sum (joined runs) ≡ start + sum (r ++ joined runs) = omega (arith, sum_by-append (λ k. k) r (joined runs)) in
    ap (λ l. asked_of (Some (wrapped start)) r ∷ l)
    (continued_snoc (start + sum r) runs run ∙ ap (λ k. continued (start + sum r) runs ++ asked_of (Some (wrapped k)) run ∷ []) more)

-- what the second round answers are the sums of the whole table
pub joined_sums : (start : ℕ) (runs : List (List ℕ)) → answers_to (continued start runs) ≡ running start (joined runs)
joined_sums start [] = refl
joined_sums start (run ∷ runs) =
    ap (λ l. l ++ answers_to (continued (start + sum run) runs)) (running-wrapped start run)
    ∙ ap (λ l. running start run ++ l) (joined_sums (start + sum run) runs)
    ∙ sym (running-append start run (joined runs))

-- what the first round answers are the runs' totals
pub joined_totals : (runs : List (List ℕ)) → answers_to (map (asked_of None) runs) ≡ map (λ run. wrapped (sum run)) runs
joined_totals [] = refl
joined_totals (run ∷ runs) = ap (λ l. wrapped (sum run) ∷ l) (joined_totals runs)

-- the start behind one run more
pub start_more : (runs : List (List ℕ)) (run : List ℕ) (start total : ℕ) → start ≡ wrapped (sum (joined runs)) → total ≡ wrapped (sum run)
    → wrapped (start + total) ≡ wrapped (sum (joined (runs ++ run ∷ [])))
start_more runs run start total e f =
    let one : sum (joined (runs ++ run ∷ [])) ≡ sum (joined runs ++ run) = ap sum (joined_snoc runs run) in
    let all : sum (joined runs) + sum run ≡ sum (joined (runs ++ run ∷ [])) = omega (arith, one, sum_by-append (λ k. k) (joined runs) run) in
    ap (λ n. wrapped (n + total)) e
    ∙ ap (λ n. wrapped (wrapped (sum (joined runs)) + n)) f
    ∙ wrapped_parts (sum (joined runs)) (sum run)
    ∙ ap wrapped all
