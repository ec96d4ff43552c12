-- A search over all ranges, and what it leaves of a seat.
use Rattle.std.proofs.Common.{◌≡◌, ℕ, zero, suc, ◌+◌, ◌%◌, ◌<◌, ◌≤◌, List, [], ◌∷◌, ◌++◌, length, length-append, get_or, sym, refl, ap, ◌∙◌, subst, arith}
use Rattle.std.proofs.Common.{Option, Some}
use mathlib.Core.Logic.{dite}
use native.Mathlib.Decide.{ℕ_discrete}
use Rattle.spindle_rounds.specs.declared.round_table.view.View.{View}
use Rattle.spindle_rounds.specs.declared.round_table.view.Standing.TheVariants.{Inside}
use Rattle.spindle_rounds.specs.RoundSlots.{Discipline}
use Rattle.spindle_rounds.specs.Words.{high_half, length_of}
use Rattle.spindle_rounds.specs.RoundSteps.{searching, reading_remainder, recalling, number_or}
use Rattle.spindle_rounds.specs.RoundAnswers.{searching_all, IsBest}
use Rattle.spindle_rounds.specs.RoundConditions.{MayClaim}

pub searched_more : {N : Type 0} (i : ℕ) (xs : List ℕ) (x : ℕ) (v : View N) → searching_all i (xs ++ x ∷ []) v ≡ searching (i + length xs) x
    (searching_all i xs v)
searched_more i [] x v = let e : i ≡ i + 0 = omega arith in ap (λ (j : ℕ). searching j x v) e
searched_more i (y ∷ ys) x v = let e : i + 1 + length ys ≡ i + length (y ∷ ys) = omega arith in
    searched_more (i + 1) ys x (searching i y v) ∙ ap (λ (j : ℕ). searching j x (searching_all (i + 1) ys (searching i y v))) e

-- who may claim may claim after it
pub may_still : {N : Type 0} (i : ℕ) (xs : List ℕ) (v : View N) → MayClaim v → MayClaim (searching_all i xs v)
may_still i [] v m = m
may_still i (x ∷ xs) v m = may_still (i + 1) xs (searching i x v) m

pub length_more : (xs : List ℕ) (x : ℕ) → length (xs ++ x ∷ []) ≡ length xs + 1
length_more xs x = length-append xs (x ∷ [])

at_last : (xs : List ℕ) (x : ℕ) → get_or (xs ++ x ∷ []) (length xs) 0 ≡ x
at_last [] x = refl
at_last (y ∷ ys) x = at_last ys x

before_last : (xs : List ℕ) (x j : ℕ) → j < length xs → get_or (xs ++ x ∷ []) j 0 ≡ get_or xs j 0
before_last [] x j lt = absurd (omega arith)
before_last (y ∷ ys) x zero lt = refl
before_last (y ∷ ys) x (suc j) lt = before_last ys x j (omega arith)

module _ (xs : List ℕ) (x i range : ℕ) (b : IsBest xs i range) where
  -- what holds of the places before and of the last holds of all
  each : (P : ℕ → ℕ → Type 0) → ((j : ℕ) → j < length xs → P j (get_or xs j 0)) → P (length xs) x → (j : ℕ) → j < length (xs ++ x ∷ []) → P j
      (get_or (xs ++ x ∷ []) j 0)
  each P old last j lt = dite (ℕ_discrete j (length xs)) (λ e. subst (λ (a : ℕ). P a (get_or (xs ++ x ∷ []) a 0)) (sym e)
      (subst (P (length xs)) (sym (at_last xs x)) last))
      (λ n. let w = length_more xs x in let lt' : j < length xs = omega arith in subst (P j) (sym (before_last xs x j lt')) (old j lt'))

  no_longer : (j : ℕ) → j < length xs → length_of (get_or xs j 0) ≤ length_of range
  no_longer j lt = dite (ℕ_discrete (length_of range) 0) (λ z. let a = b.1 z j lt in omega arith) (λ some. let a = b.0 (omega arith) in let c = a.0.2 j lt in
      subst (λ (y : ℕ). length_of (get_or xs j 0) ≤ length_of y) a.1 c)

  -- the next range is longer
  pub best_last : length_of range < length_of x → IsBest (xs ++ x ∷ []) (length xs) x
  best_last longer = let w = length_more xs x in let here = at_last xs x in let e = ap length_of here in (
    (λ some. (
      (
        (omega arith),
        (omega arith),
        each (λ j y. length_of y ≤ length_of (get_or (xs ++ x ∷ []) (length xs) 0)) (λ j lt. let a = no_longer j lt in omega arith) (omega arith),
        (λ j lt. let a = no_longer j lt in let c = ap length_of (before_last xs x j lt) in omega arith),
      ),
      here,
    )),
    (λ z. absurd (omega arith)),
  )

  -- it isn't
  pub best_stays : length_of x ≤ length_of range → IsBest (xs ++ x ∷ []) i range
  best_stays le = let w = length_more xs x in (
    (λ some. let a = b.0 some in let lt = a.0.0 in let here = before_last xs x i lt in let same = here ∙ a.1 in let e = ap length_of same in
        let f = ap length_of a.1 in (
          (
            (omega arith),
            (omega arith),
            each (λ j y. length_of y ≤ length_of (get_or (xs ++ x ∷ []) i 0)) (λ j lt. let c = no_longer j lt in omega arith) (omega arith),
            (λ j lt'. let c = a.0.3 j lt' in let d = ap length_of (before_last xs x j (omega arith)) in omega arith),
          ),
          same,
        )),
    (λ z. each (λ j y. length_of y ≡ 0) (b.1 z) (omega arith)),
  )

-- what a begin takes, where the number and the slots are the same
pub took_at : {S N : Type 0} (D : Discipline S N) (k k' : ℕ) (c c' d : List (ℕ × S)) (x : Option N) → k ≡ k' → c ≡ c' → D.took k c x d → D.took k' c' x d
took_at {S = S} D k k' c c' d x same_number same_slots t = subst (λ (z : List (ℕ × S)). D.took k' z x d) same_slots
    (subst (λ (z : ℕ). D.took z c x d) same_number t)

-- the remainder was read, and then the number, which the seat knew
pub recalled_view : {N : Type 0} (rest found : ℕ) (v w u : View N) → MayClaim v → w ≡ reading_remainder rest v →
    ((q n : ℕ) → w.standing ≡ Inside q → w.known.number ≡ Some n → (u ≡ recalling n w) × (found % high_half ≡ n))
    → (u ≡ recalling (number_or v.known.number) (reading_remainder rest v)) × (found % high_half ≡ number_or v.known.number)
recalled_view {N = N} rest found v w u m read known = let is : number_or v.known.number ≡ m.1.0 = ap number_or m.1.1 in
    let k = known m.0.0 m.1.0 (ap (λ (z : View N). z.standing) read ∙ m.0.1) (ap (λ (z : View N). z.known.number) read ∙ m.1.1) in
    (k.0 ∙ (λ i. recalling (sym is i) (read i)), k.1 ∙ sym is)
