-- Where a number stands among the lists that numbers are dealt in.
use Rattle.std.proofs.Common.{◌≡◌, ℕ, ◌+◌, ◌-◌, ◌*◌, ◌/◌, ◌%◌, ◌<◌, ◌≤◌, List, ◌++◌, inl, inr, length, take, drop, get_or, Some, ap, ◌∙◌, zero, suc, arith}
use Rattle.std.proofs.Common.{length-append, refl, min}
use Rattle.std.specs.Prelude.{slice_get}
use Rattle.std.proofs.lemmas.List.{get_or-take, get_or-drop, get_or_append_left, get_or-append_right, length-take, length-take-le, length-drop}
use Rattle.std.proofs.lemmas.Option.{slice_get-get_or}
use Rattle.std.proofs.lemmas.Bool.{cases_lt}
use Rattle.std.proofs.Math.Nat.{mul-le-mul_left, div-lt_iff_lt-mul, div-add-mod'}
use Rattle.spindle_parts.specs.Pieces.{counted, dealt}
use Rattle.spindle_parts.proofs.Deals.{length-counted}

-- the k-th of the numbers from `from` on
pub get_or-counted : (from n k : ℕ) → k < n → get_or (counted from n) k 0 ≡ from + k
get_or-counted from zero k h = absurd (omega (arith, h))
get_or-counted from (suc n) zero h = omega arith
get_or-counted from (suc n) (suc k) h = omega (arith, get_or-counted (from + 1) n k (omega (arith, h)))

-- a run of numbers, with others behind it
in_run : (n run a j : ℕ) (rest : List ℕ) → j < run → a + run ≤ n → slice_get (take run (drop a (counted 0 n)) ++ rest) j ≡ Some (a + j)
in_run n run a j rest h k =
    let xs = counted 0 n in
    let c = length-counted 0 n in
    let l : length (take run (drop a xs)) ≡ run = length-take-le run (drop a xs) (omega (arith, length-drop a xs, c)) in
    let v = get_or_append_left (take run (drop a xs)) rest 0 j (omega (arith, l)) ∙ get_or-take run (drop a xs) j 0 h ∙ get_or-drop a xs j 0
    ∙ get_or-counted 0 n (a + j) (omega arith) in
    slice_get-get_or (take run (drop a xs) ++ rest) j 0 (omega (arith, l, length-append (take run (drop a xs)) rest)) ∙ ap (λ m. Some m) (omega (arith, v))

-- one number behind a run
behind_run : (n run a b : ℕ) → a + run ≤ n → b < n → slice_get (take run (drop a (counted 0 n)) ++ take 1 (drop b (counted 0 n))) run ≡ Some b
behind_run n run a b k h =
    let xs = counted 0 n in
    let c = length-counted 0 n in
    let own = take run (drop a xs) in
    let last = take 1 (drop b xs) in
    let l : length own ≡ run = length-take-le run (drop a xs) (omega (arith, length-drop a xs, c)) in
    let m : length last ≡ 1 = length-take-le 1 (drop b xs) (omega (arith, length-drop b xs, c)) in
    let z : run - run ≡ 0 = omega arith in
    let v = get_or-append_right own last run run 0 l (omega arith) ∙ ap (λ i. get_or last i 0) z ∙ get_or-take 1 (drop b xs) 0 0 (omega arith)
    ∙ get_or-drop b xs 0 0 ∙ get_or-counted 0 n (b + 0) (omega arith) in
    slice_get-get_or (own ++ last) run 0 (omega (arith, l, m, length-append own last)) ∙ ap (λ i. Some i) (omega (arith, v))

-- a number below the runs stands in its thread's run
pub dealt_own : (n threads thread j : ℕ) → j < n / threads → n / threads * thread + n / threads ≤ n → slice_get (dealt (counted 0 n) threads thread) j ≡ Some
    (n / threads * thread + j)
dealt_own n threads thread j h k = rw (length-counted 0 n) (in_run n (n / threads) (n / threads * thread) j
    (take 1 (drop (n / threads * threads + thread) (counted 0 n))) h k)

-- a left-over number stands behind its thread's run
pub dealt_rest : (n threads thread : ℕ) → n / threads * thread + n / threads ≤ n → n / threads * threads + thread < n → slice_get
    (dealt (counted 0 n) threads thread) (n / threads) ≡ Some (n / threads * threads + thread)
dealt_rest n threads thread k h = rw (length-counted 0 n) (behind_run n (n / threads) (n / threads * thread) (n / threads * threads + thread) k h)

-- the last run ends where the left-over numbers begin
pub run_ends : (n threads thread : ℕ) → 0 < threads → thread < threads → n / threads * thread + n / threads ≤ n
run_ends n threads thread h k =
    omega (arith, mul-le-mul_left {m = thread + 1} {n = threads} (n / threads) (omega arith))

-- a run ends where the next one begins
pub next_run : (each thread place : ℕ) → each ≤ place → place ≤ each → each * thread + place ≡ each * (thread + 1)
next_run each thread place h k = omega (arith, h, k)

-- the runs of all threads end where the left-over numbers begin
pub all_runs : (each thread threads : ℕ) → threads ≤ thread → thread ≤ threads → each * thread ≡ each * threads + 0
all_runs each thread threads h k = omega (arith, ap (λ t. each * t) {x = thread} {y = threads} (omega (arith, h, k)))

-- and the left-over numbers end where all do
pub all_numbers : (n threads thread : ℕ) → n % threads ≤ thread → thread ≤ n % threads → n / threads * threads + thread ≡ n
all_numbers n threads thread h k = omega (arith, h, k, div-add-mod' n threads)

pub rest_within : (n threads thread : ℕ) → thread < n % threads → n / threads * threads + thread < n
rest_within n threads thread h = omega (arith, h, div-add-mod' n threads)

no_runs : (each threads number : ℕ) → each ≤ 0 → number < each * threads → 0 < each
no_runs zero threads number e h = absurd (omega (arith, h))
no_runs (suc each) threads number e h = omega arith

-- the address of a number below the left-over ones
pub own_address : (number n threads : ℕ) → 0 < threads → number < n / threads * threads → slice_get (dealt (counted 0 n) threads (number / (n / threads)))
    (number % (n / threads)) ≡ Some number
own_address number n threads h k =
    let each = n / threads in
    let some : 0 < each = elim (cases_lt 0 each) [ inl e ↦ e | inr e ↦ no_runs each threads number e k ] in
    let thread : number / each < threads = (div-lt_iff_lt-mul {k = each} {x = number} {y = threads} some).1 (omega (arith, k)) in
    dealt_own n threads (number / each) (number % each) (omega arith) (run_ends n threads (number / each) h thread) ∙ ap (λ m. Some m) (omega arith)

-- the address of a left-over number
pub rest_address : (number n threads : ℕ) → 0 < threads → n / threads * threads ≤ number → number < n → slice_get
    (dealt (counted 0 n) threads (number - n / threads * threads)) (n / threads) ≡ Some number
rest_address number n threads h k l =
    let thread = number - n / threads * threads in
    dealt_rest n threads thread (run_ends n threads thread h (omega arith)) (omega arith) ∙ ap (λ m. Some m) (omega arith)

own_run_length : (n threads thread : ℕ) → thread < threads → length (take (n / threads) (drop (n / threads * thread) (counted 0 n))) ≡ n / threads
own_run_length n threads thread h =
    let xs = counted 0 n in
    let start = n / threads * thread in
    length-take-le (n / threads) (drop start xs) (omega (arith, length-drop start xs, length-counted 0 n, run_ends n threads thread (omega (arith, h)) h))

left_over_length : (n a : ℕ) → length (take 1 (drop a (counted 0 n))) ≡ min 1 (n - a)
left_over_length n a =
    let xs = counted 0 n in
    length-take 1 (drop a xs) ∙ ap (min 1) (length-drop a xs ∙ ap (λ m. m - a) (length-counted 0 n))

-- how many a thread is dealt
dealt_length : (n threads thread : ℕ) → thread < threads → length (dealt (counted 0 n) threads thread) ≡ n / threads + min 1
    (n - (n / threads * threads + thread))
dealt_length n threads thread h =
    rw (
      length-counted 0 n,
      length-append (take (n / threads) (drop (n / threads * thread) (counted 0 n)))
          (take 1 (drop (n / threads * threads + thread) (counted 0 n))),
      own_run_length n threads thread h,
      left_over_length n
          (n / threads * threads + thread),
    ) refl

-- a thread for which a number is left over is dealt one more
pub longer_dealt : (n threads thread : ℕ) → thread < threads → thread < n % threads → n / threads + 1 ≡ length (dealt (counted 0 n) threads thread)
longer_dealt n threads thread h k = omega (arith, dealt_length n threads thread h, div-add-mod' n threads)

-- and the others aren't
pub shorter_dealt : (n threads thread : ℕ) → thread < threads → n % threads ≤ thread → n / threads ≡ length (dealt (counted 0 n) threads thread)
shorter_dealt n threads thread h k = omega (arith, dealt_length n threads thread h, div-add-mod' n threads)

-- behind the run there is one place at most, that of a left-over number
pub behind : (n threads thread place : ℕ) → thread < threads → place < length (dealt (counted 0 n) threads thread) → n / threads ≤ place → (place ≡ n / threads)
    × (n / threads * threads + thread < n)
behind n threads thread place h k l =
    let c = dealt_length n threads thread h in (omega (arith, c, k, l), omega (arith, c, k, l))
