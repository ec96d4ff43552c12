-- Which jobs counters and remainder stand for: at a publish all, after a claim all but one.
use Rattle.std.proofs.Common.{◌≡◌, ◌≢◌, inl, inr, ℕ, suc, ◌+◌, ◌*◌, ◌-◌, ◌/◌, ◌%◌, ◌<◌, ◌≤◌, List, [], ◌∷◌, length, get_or, sum, ap, arith}
use Rattle.std.proofs.lemmas.Nat.{mul-le}
use Rattle.std.proofs.lemmas.List.Sums.{sum_by-cons, get_or-le-sum_by}
use Rattle.spindle_parts.specs.EverySchedule.{StandsFor}
use Rattle.spindle_parts.proofs.Parties.{by_equal, by_order}

module _ (T d : ℕ) where
  -- the own jobs of a later thread come later
  own_before : (i t : ℕ) → i < t → d * i + d ≤ d * t
  own_before i t lt = let le : i + 1 ≤ t = omega arith in let a = mul-le d (i + 1) d t (omega arith) le in omega (arith, a)

  module _ (n rest : ℕ) (whole : n ≡ d * T + rest) where
    -- whatever is stood for is a job
    pub stands_below : (c : ℕ → ℕ) (rem k : ℕ) → StandsFor T d c rem n k → k < n
    stands_below c rem k (inl x) = let a = own_before x.0 T x.1 in omega arith
    stands_below c rem k (inr x) = x.0

    -- full counters and the full remainder stand for every job
    pub all_stand : (c : ℕ → ℕ) → ((t : ℕ) → t < T → c t ≡ d) → (k : ℕ) → k < n → StandsFor T d c rest n k
    all_stand c full k lt = by_order (d * T) k (λ late. inr (lt, omega arith))
        (λ early. let pos : 0 < d = by_equal d 0 (λ z. let a = ap (λ (x : ℕ). x * T) z in absurd (omega arith)) (λ p. omega arith) in
        let q : d * (k / d) + k % d ≡ k = omega arith in let r : k % d < d = omega arith in
        let at : k / d < T = by_order T (k / d) (λ le. let a = mul-le d T d (k / d) (omega arith) le in absurd (omega arith)) (λ no. omega arith) in
        inl (k / d, at, omega arith, let f = full (k / d) at in omega arith))

    -- a counter that isn't 0 stands for a job, and so does the remainder
    pub first_stands : (c : ℕ → ℕ) (rem t : ℕ) → t < T → c t ≤ d → 0 < c t → StandsFor T d c rem n (d * t + d - c t)
    first_stands c rem t lt le some = inl (t, lt, omega arith, omega arith)

    pub rest_stands : (c : ℕ → ℕ) (rem : ℕ) → rem ≤ rest → 0 < rem → StandsFor T d c rem n (n - rem)
    rest_stands c rem le some = inr (omega arith, omega arith)

    module _ (c : ℕ → ℕ) (rem : ℕ) (most : (t : ℕ) → t < T → c t ≤ d) (le : rem ≤ rest) where
      -- a claim of counter t, which falls by one to c'
      module _ (c' : ℕ → ℕ) (t : ℕ) (lt : t < T) (some : 0 < c t) (falls : c' t ≡ c t - 1) (same : (i : ℕ) → i ≢ t → c' i ≡ c i) where
        pub stays_left : (j : ℕ) → j ≢ d * t + d - c t → StandsFor T d c rem n j → StandsFor T d c' rem n j
        stays_left j other (inl x) = let still : d * x.0 + d ≤ j + c' x.0 = by_equal x.0 t
            (λ e. let a = ap c' e in let b = ap c e in let f = ap (λ (z : ℕ). d * z) e in omega arith) (λ o. let a = same x.0 o in omega arith) in
            inl (x.0, x.1, x.2, still)
        stays_left j other (inr x) = inr x

        pub was_left : (j : ℕ) → StandsFor T d c' rem n j → StandsFor T d c rem n j × (j ≢ d * t + d - c t)
        was_left j (inl x) = let high = most t lt in by_equal x.0 t
            (λ e. let a = ap c' e in let b = ap c e in let f = ap (λ (z : ℕ). d * z) e in (inl (x.0, x.1, x.2, omega arith), λ is. omega arith))
            (λ o. let a = same x.0 o in let m = most x.0 x.1 in let apart : j ≢ d * t + d - c t = λ is. by_order x.0 t
            (λ before. let b = own_before x.0 t (omega arith) in omega arith) (λ after. let b = own_before t x.0 (omega arith) in omega arith) in
            (inl (x.0, x.1, x.2, omega arith), apart))
        was_left j (inr x) = let a = own_before t T lt in let high = most t lt in (inr x, λ is. omega arith)

      -- a claim of the remainder
      module _ (some : 0 < rem) where
        pub stays_rest : (j : ℕ) → j ≢ n - rem → StandsFor T d c rem n j → StandsFor T d c (rem - 1) n j
        stays_rest j other (inl x) = inl x
        stays_rest j other (inr x) = inr (x.0, omega arith)

        pub was_rest : (j : ℕ) → StandsFor T d c (rem - 1) n j → StandsFor T d c rem n j × (j ≢ n - rem)
        was_rest j (inl x) = let a = own_before x.0 T x.1 in (inl x, λ is. omega arith)
        was_rest j (inr x) = (inr (x.0, omega arith), λ is. omega arith)

-- a sum above 0 has a part above 0
pub some_part : (cs : List ℕ) → 0 < sum cs → (t : ℕ) × (t < length cs) × (0 < get_or cs t 0)
some_part [] lt = absurd (omega arith)
some_part (x ∷ xs) lt = let a = sum_by-cons (λ (k : ℕ). k) x xs in
    by_equal x 0 (λ z. let r = some_part xs (omega arith) in let r₁ = r.1 in (suc r.0, omega arith, r.2)) (λ n. (0, omega arith, omega arith))

-- where nothing is left, nothing is stood for
pub none_stands : (T d : ℕ) (cs : List ℕ) (rem n k : ℕ) → T ≡ length cs → sum cs + rem ≡ 0 → StandsFor T d (λ t. get_or cs t 0) rem n k → ⊥
none_stands T d cs rem n k size none (inl x) = let a = get_or-le-sum_by (λ (z : ℕ). z) cs x.0 0 (omega arith) in omega arith
none_stands T d cs rem n k size none (inr x) = omega arith
