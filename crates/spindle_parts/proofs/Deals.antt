-- Dealing pieces to threads: the lengths of the lists, one list more, and that all of them hold every piece once.
use Rattle.std.proofs.Common.{◌≡◌, ℕ, ◌+◌, ◌-◌, ◌*◌, ◌/◌, ◌%◌, ◌<◌, ◌≤◌, List, [], ◌∷◌, ◌++◌, length, min, take, drop, set, get_or, map, replicate, refl, ap}
use Rattle.std.proofs.Common.{sym, ◌∙◌, arith, zero, suc, length-append, zero-add, append_assoc, inl, inr}
use Rattle.std.proofs.lemmas.List.{get_or_append_left, get_or-append_right, get_or-replicate, length-replicate, length-map, map-set, set_at, get_or_at}
use Rattle.std.proofs.lemmas.List.{map-append, drop-drop, drop-take, take-take, take-map, drop-map, take-append-drop, take_all, length-drop}
use Rattle.std.proofs.lemmas.List.Sorted.{IsPermutation-append_left, IsPermutation-append_right, IsPermutation-append_comm, IsPermutation-trans}
use Rattle.std.proofs.lemmas.List.Sorted.{IsPermutation-refl}
use Rattle.std.proofs.lemmas.Bool.{cases_lt}
use Rattle.std.proofs.lemmas.Nat.{div-add-mod'}
use Rattle.std.proofs.Math.Nat.{min-le_left, min-le_right}
use Rattle.std.specs.List.Sorted.{IsPermutation}
use Rattle.spindle_parts.specs.Pieces.{joined, counted, dealt, lengths_of}
use Rattle.spindle_parts.proofs.ListLaws.{counted_suc, counted_snoc, joined_snoc}

-- there are as many lengths as pieces
pub length-lengths_of : (len m : ℕ) → 0 < m → length (lengths_of len m) ≡ m
length-lengths_of len m h = simp (length-append, length-replicate) (omega arith)

-- the length of one of the longer pieces
pub longer_at : (len m i : ℕ) → i < len % m → get_or (lengths_of len m) i 0 ≡ len / m + 1
longer_at len m i h =
    let a = replicate (len % m) (len / m + 1) in
    let n : i < length a = omega (arith, length-replicate (len % m) (len / m + 1)) in
    get_or_append_left a (replicate (m - len % m) (len / m)) 0 i n ∙ get_or-replicate (len % m) i (len / m + 1) 0 h

-- the length of one of the others
pub shorter_at : (len m i : ℕ) → len % m ≤ i → i < m → get_or (lengths_of len m) i 0 ≡ len / m
shorter_at len m i h k =
    get_or-append_right (replicate (len % m) (len / m + 1)) (replicate (m - len % m) (len / m)) (len % m) i 0 (length-replicate (len % m) (len / m + 1)) h
    ∙ get_or-replicate (m - len % m) (i - len % m) (len / m) 0 (omega arith)

-- as many numbers as were counted
pub length-counted : (from n : ℕ) → length (counted from n) ≡ n
length-counted from zero = refl
length-counted from (suc n) = ap suc (length-counted (from + 1) n)

-- a thread has room for its run, and for one of the rest where there is one for it
pub fits : (len m i rest : ℕ) → i < m → rest ≡ len - len / m * m - i → len / m + min 1 rest ≤ get_or (lengths_of len m) i 0
fits len m i rest h e =
    let k = div-add-mod' len m in
    elim (cases_lt i (len % m)) [
      | inl a ↦ omega (arith, longer_at len m i a, min-le_left 1 rest)
      | inr a ↦ omega (arith, shorter_at len m i a h, min-le_right 1 rest)
    ]

-- the run of thread i with d threads behind it, read from the part of the list that is dealt in runs
own_run_before : {A : Type 0} (xs : List A) (each i d : ℕ) → take each (drop (each * i) (take (each * (i + suc d)) xs)) ≡ take each (drop (each * i) xs)
own_run_before xs each i d =
    let m : ℕ = each * suc d in
    let e : each * (i + suc d) ≡ each * i + m = omega arith in
    let k : each ≤ m = omega arith in
    rw (e, drop-take (each * i) m xs, take-take each m (drop (each * i) xs) k) refl

pub own_run : {A : Type 0} (xs : List A) (each threads i : ℕ) → i < threads
    → take each (drop (each * i) (take (each * threads) xs)) ≡ take each (drop (each * i) xs)
own_run xs each threads i h = let e : i + suc (threads - (i + 1)) ≡ threads = omega arith in rw e at (own_run_before xs each i (threads - (i + 1)))

-- what is left after the run
pub own_left : {A : Type 0} (xs : List A) (each i : ℕ) → drop each (drop (each * i) xs) ≡ drop (each * (i + 1)) xs
own_left xs each i = let e : each * (i + 1) ≡ each * i + each = omega arith in rw e (drop-drop each (each * i) xs)

-- before its turn, a list is empty
pub list_empty : {A : Type 0} (F : ℕ → List A) (threads i : ℕ) → i < threads → get_or (map F (counted 0 i) ++ replicate (threads - i) []) i [] ≡ []
list_empty F threads i h =
    let e : threads - i ≡ suc (threads - (i + 1)) = omega arith in
    let n : length (map F (counted 0 i)) ≡ i = length-map (counted 0 i) F ∙ length-counted 0 i in
    rw e (get_or_at (map F (counted 0 i)) [] (replicate (threads - (i + 1)) []) [] i n)

-- one more list was dealt
pub lists_next : {H A : Type 0} (f : H → List A) (lists : List H) (F : ℕ → List A) (threads i : ℕ) (list : H) → i < threads
    → map f lists ≡ map F (counted 0 i) ++ replicate (threads - i) [] → f list ≡ F i
    → map f (set lists i list) ≡ map F (counted 0 (i + 1)) ++ replicate (threads - (i + 1)) []
lists_next f lists F threads i list h e k =
    let s : threads - i ≡ suc (threads - (i + 1)) = omega arith in
    let n : length (map F (counted 0 i)) ≡ i = length-map (counted 0 i) F ∙ length-counted 0 i in
    let rest = replicate (threads - (i + 1)) [] in
    let more : map F (counted 0 (i + 1)) ≡ map F (counted 0 i) ++ F i ∷ [] = rw (counted_snoc 0 i, zero-add i) (map-append F (counted 0 i) (i ∷ [])) in
    rw (map-set f lists i list, e, s, more, append_assoc (map F (counted 0 i)) (F i ∷ []) rest, k) (set_at (map F (counted 0 i)) [] rest (F i) i n)

-- what is dealt, under a function of each element
map-dealt : {A B : Type 0} (f : A → B) (xs : List A) (threads i : ℕ) → map f (dealt xs threads i) ≡ dealt (map f xs) threads i
map-dealt f xs threads i = simp (length-map, map-append, drop-map, take-map)

-- the same for several threads
pub map-dealt_all : {A B : Type 0} (f : A → B) (xs : List A) (threads : ℕ) (ks : List ℕ)
    → map (map f) (map (dealt xs threads) ks) ≡ map (dealt (map f xs) threads) ks
map-dealt_all f xs threads [] = refl
map-dealt_all f xs threads (k ∷ ks) = rw (map-dealt f xs threads k, map-dealt_all f xs threads ks) refl

-- the first a and the next b elements
take_both : {A : Type 0} (a b : ℕ) (xs : List A) → take (a + b) xs ≡ take a xs ++ take b (drop a xs)
take_both a b xs = let e = take-append-drop a (take (a + b) xs) in sym (rw (take-take a (a + b) xs (omega arith), drop-take a b xs) at e)

-- four lists, grouped by the middle or in pairs
regrouped : {A : Type 0} (p q r s : List A) → p ++ ((q ++ r) ++ s) ≡ (p ++ q) ++ (r ++ s)
regrouped p q r s = ap (λ z. p ++ z) (append_assoc q r s) ∙ sym (append_assoc p q (r ++ s))

-- the two in the middle exchanged
exchanged : {A : Type 0} (p q r s : List A) → IsPermutation ((p ++ q) ++ (r ++ s)) ((p ++ r) ++ (q ++ s))
exchanged p q r s =
    let inner = IsPermutation-append_right p ((q ++ r) ++ s) ((r ++ q) ++ s) (IsPermutation-append_left s (q ++ r) (r ++ q) (IsPermutation-append_comm q r)) in
    rw (regrouped p q r s, regrouped p r q s) at inner

-- the first i threads hold their runs and the first i of the rest
dealt_part : {A : Type 0} (xs : List A) (threads i : ℕ) →
    let each = length xs / threads in
    IsPermutation (take (each * i) xs ++ take i (drop (each * threads) xs)) (joined (map (dealt xs threads) (counted 0 i)))
dealt_part xs threads zero = let e : length xs / threads * 0 ≡ 0 = omega arith in rw e (IsPermutation-refl [])
dealt_part xs threads (suc i) =
    let each = length xs / threads in let R = drop (each * threads) xs in let run = take each (drop (each * i) xs) in
    let one = take 1 (drop (each * threads + i) xs) in let front = take (each * i) xs in let back = take i R in
    let some = joined (map (dealt xs threads) (counted 0 i)) in
    let e : each * suc i ≡ each * i + each = omega arith in
    let f : suc i ≡ i + 1 = omega arith in
    let F = dealt xs threads in
    let list : counted 0 (suc i) ≡ counted 0 i ++ i ∷ [] = counted_suc 0 i ∙ ap (λ k. counted 0 i ++ k ∷ []) (zero-add i) in
    let more : joined (map F (counted 0 (suc i))) ≡ some ++ (run ++ one) =
    ap (λ k. joined (map F k)) list ∙ ap joined (map-append F (counted 0 i) (i ∷ [])) ∙ joined_snoc (map F (counted 0 i)) (F i) in
    let ones : take (suc i) R ≡ back ++ one = ap (λ k. take k R) f ∙ take_both i 1 R ∙ ap (λ k. back ++ take 1 k) (drop-drop i (each * threads) xs) in
    let runs : take (each * suc i) xs ≡ front ++ run = ap (λ k. take k xs) e ∙ take_both (each * i) each xs in
    let parts : take (each * suc i) xs ++ take (suc i) R ≡ (front ++ run) ++ (back ++ one) = rw (runs, ones) refl in
    rw (parts, more)
    (IsPermutation-trans ((front ++ run) ++ (back ++ one)) ((front ++ back) ++ (run ++ one)) (some ++ (run ++ one)) (exchanged front run back one)
    (IsPermutation-append_left (run ++ one) (front ++ back) some (dealt_part xs threads i)))

-- together the threads hold every element once
pub dealt_all : {A : Type 0} (xs : List A) (threads : ℕ) → 0 < threads → IsPermutation xs (joined (map (dealt xs threads) (counted 0 threads)))
dealt_all xs threads h =
    let each = length xs / threads in let R = drop (each * threads) xs in
    let short : length R ≤ threads = omega (arith, length-drop (each * threads) xs, div-add-mod' (length xs) threads) in
    rw (take_all threads R short, take-append-drop (each * threads) xs) at (dealt_part xs threads threads)
