-- The pieces of a list.
use Rattle.std.specs.Prelude.{ℕ, ◌+◌, ◌/◌, ◌%◌, ◌-◌, List, [], ◌∷◌, ◌++◌, ◌*◌, length, min}
use Rattle.std.specs.Prelude.{replicate, take, drop, zero, suc}

-- the lengths of m pieces: the first `len % m` are one longer
abbrev pub lengths_of : (len m : ℕ) → List ℕ
lengths_of len m = replicate (len % m) (len / m + 1) ++ replicate (m - len % m) (len / m)

-- the lengths of the pieces that `cut` makes: as many as jobs, but no more than elements
abbrev pub cut_lengths : (len n_jobs : ℕ) → List ℕ
cut_lengths len n_jobs = lengths_of len (min len n_jobs)

-- the lists joined in order
abbrev pub joined : {T : Type 0} → List (List T) → List T
joined [] = []
joined (x ∷ xs) = x ++ joined xs

-- the numbers from `from` on
abbrev pub counted : (from n : ℕ) → List ℕ
counted from zero = []
counted from (suc n) = from ∷ counted (from + 1) n

-- the sum
abbrev pub total : List ℕ → ℕ
total [] = 0
total (x ∷ xs) = x + total xs

-- what thread i is dealt of a list: the i-th run of n / threads elements,
-- and the i-th of the rest where there is one
abbrev pub dealt : {T : Type 0} → List T → (threads i : ℕ) → List T
dealt xs threads i =
    let each = length xs / threads in
    take each (drop (each * i) xs) ++ take 1 (drop (each * threads + i) xs)
