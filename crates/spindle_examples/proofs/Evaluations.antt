-- A bite leaves fewer squares, so that a game of as many bites as squares is a whole one.
use Rattle.std.proofs.Common.{◌≡◌, ℕ, zero, suc, ◌+◌, ◌-◌, ◌<◌, ◌≤◌, ◌==◌, Bool, true, false, not, cond, ◌||◌, List, [], ◌∷◌, ◌++◌, map, length, refl, ap}
use Rattle.std.proofs.Common.{sym, ◌∙◌, subst, inl, inr, append-nil, arith}
use Rattle.std.specs.List.{list_any, filter, AllZip}
use Rattle.std.proofs.lemmas.Bool.{cases_lt, or_left, or_right, or_from}
use Rattle.std.proofs.lemmas.Bool.Decides.{nat_tests}
use Rattle.std.proofs.lemmas.List.Elements.{filter-append}
use Rattle.std.proofs.lemmas.List.Folds.{list_any-append}
use Rattle.spindle.specs.Pieces.{counted}
use Rattle.spindle.proofs.ListLaws.{counted_snoc}
use Rattle.spindle_examples.specs.declared.chomp.Board.{Board}
use Rattle.spindle_examples.specs.Chomp.{squares_of, after, bites_of, wins_within, wins, winning_bites}

-- each bite takes a square at least
fewer : (board : Board) (at : ℕ) → at < squares_of board → squares_of (after board at) < squares_of board
fewer board at h = grind (arith, nat_tests)

-- two tests that agree at the numbers counted
any_agree : (p q : ℕ → Bool) (from n : ℕ) → ((k : ℕ) → from ≤ k → k < from + n → p k ≡ q k)
    → list_any p (counted from n) ≡ list_any q (counted from n)
any_agree p q from zero same = refl
any_agree p q from (suc n) same =
    let here : p from ≡ q from = same from (omega arith) (omega arith) in
    let more : list_any p (counted (from + 1) n) ≡ list_any q (counted (from + 1) n) =
    any_agree p q (from + 1) n (λ k low high. same k (omega arith) (omega arith)) in
    rw (here, more) refl

-- more bites than there are squares change nothing
enough : (n m : ℕ) (board : Board) → squares_of board ≤ n → squares_of board ≤ m → wins_within n board ≡ wins_within m board
enough zero zero board a b = refl
enough zero (suc m) board a b = let none : squares_of board - 1 ≡ 0 = omega arith in rw none refl
enough (suc n) zero board a b = let none : squares_of board - 1 ≡ 0 = omega arith in rw none refl
enough (suc n) (suc m) board a b =
    any_agree (λ at. not (wins_within n (after board at))) (λ at. not (wins_within m (after board at))) 1 (squares_of board - 1)
    (λ at low high. let less = fewer board at (omega arith) in
    ap not (enough n m (after board at) (omega (arith, less)) (omega (arith, less))))

-- who is to move wins by some bite, after which the other one doesn't
within_by : (n : ℕ) (board : Board) → squares_of board ≤ n
    → wins_within n board ≡ list_any (λ at. not (wins (after board at))) (bites_of board)
within_by zero board a = let none : squares_of board - 1 ≡ 0 = omega arith in rw none refl
within_by (suc n) board a =
    any_agree (λ at. not (wins_within n (after board at))) (λ at. not (wins (after board at))) 1 (squares_of board - 1)
    (λ at low high. let less = fewer board at (omega arith) in
    ap not (enough n (squares_of (after board at)) (after board at) (omega (arith, less)) (omega arith)))

pub wins_by : (board : Board) → wins board ≡ list_any (λ at. not (wins (after board at))) (bites_of board)
wins_by board = within_by (squares_of board) board (omega arith)

-- one number that passes the test
pub any_counted : (p : ℕ → Bool) (from n k : ℕ) → from ≤ k → k < from + n → p k ≡ true → list_any p (counted from n) ≡ true
any_counted p from zero k low high passes = absurd (omega arith)
any_counted p from (suc n) k low high passes =
    elim (cases_lt from k) [
      | inl less ↦ or_right (p from) (list_any p (counted (from + 1) n)) (any_counted p (from + 1) n k (omega arith) (omega arith) passes)
      | inr more ↦ let same : k ≡ from = omega arith in
          or_left (p from) (list_any p (counted (from + 1) n)) (subst (λ x. p x ≡ true) same passes)
    ]

-- one number more that doesn't
pub none_more : (p : ℕ → Bool) (from n : ℕ) → list_any p (counted from n) ≡ false → p (from + n) ≡ false
    → list_any p (counted from (n + 1)) ≡ false
none_more p from n none here =
    rw (counted_snoc from n, list_any-append p (counted from n) ((from + n) ∷ []))
    (or_from (list_any p (counted from n)) (p (from + n) || false) none (or_from (p (from + n)) false here refl))

-- what a round answers of a bite
pub answered : {B : Type 0} (R : Board → B → Type 0) (board : Board) (from n : ℕ) (xs : List B) (x : B) (rest : List B)
    → AllZip R (map (after board) (counted from n)) (xs ++ x ∷ rest) → R (after board (from + length xs)) x
answered R board from zero [] x rest all = absurd all
answered R board from zero (y ∷ xs) x rest all = absurd all
answered R board from (suc n) [] x rest all = let here : from + 0 ≡ from = omega arith in rw here all.0
answered R board from (suc n) (y ∷ xs) x rest all =
    let here : from + suc (length xs) ≡ from + 1 + length xs = omega arith in
    rw here (answered R board (from + 1) n xs x rest all.1)

-- one number more, which passes a test or doesn't
filter_more : (p : ℕ → Bool) (n : ℕ) (passes : Bool) → p (1 + n) ≡ passes
    → filter p (counted 1 n) ++ cond passes ((1 + n) ∷ []) [] ≡ filter p (counted 1 (n + 1))
filter_more p n passes here =
    sym (rw (counted_snoc 1 n, filter-append p (counted 1 n) ((1 + n) ∷ [])) (ap (λ b. filter p (counted 1 n) ++ cond b ((1 + n) ∷ []) []) here))

pub one_passes : (p : ℕ → Bool) (n : ℕ) → p (1 + n) ≡ true → filter p (counted 1 n) ++ (1 + n) ∷ [] ≡ filter p (counted 1 (n + 1))
one_passes p n here = filter_more p n true here

pub one_fails : (p : ℕ → Bool) (n : ℕ) → p (1 + n) ≡ false → filter p (counted 1 n) ≡ filter p (counted 1 (n + 1))
one_fails p n here = sym (append-nil (filter p (counted 1 n))) ∙ filter_more p n false here

-- a list that holds one more where that passes a test
one_or_none : (passes : Bool) (k : ℕ) (ks : List ℕ) (some : Bool) → not (length ks == 0) ≡ some
    → not (length (cond passes (k ∷ ks) ks) == 0) ≡ (passes || some)
one_or_none true k ks some h = let more : 0 < length (k ∷ ks) = omega arith in grind (more, arith, nat_tests)
one_or_none false k ks some h = h

-- a filter leaves something where something passes
some_pass : (p : ℕ → Bool) (ks : List ℕ) → not (length (filter p ks) == 0) ≡ list_any p ks
some_pass p [] = refl
some_pass p (k ∷ ks) = one_or_none (p k) k (filter p ks) (list_any p ks) (some_pass p ks)

-- who is to move wins where some bite does
pub wins_where : (board : Board) → not (length (winning_bites board) == 0) ≡ wins board
wins_where board = some_pass (λ at. not (wins (after board at))) (bites_of board) ∙ sym (wins_by board)
