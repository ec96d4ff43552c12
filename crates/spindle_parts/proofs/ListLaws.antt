-- Lists: one more at the end, reversing, sums, and the lengths of pieces.
use Rattle.std.proofs.Common.{◌≡◌, ℕ, ◌+◌, ◌<◌, List, [], ◌∷◌, ◌++◌, length, take, drop, get_or, map, refl, ap, sym, ◌∙◌, append_assoc, zero-add, add_assoc}
use Rattle.std.proofs.Common.{replicate, ◌*◌, ◌-◌, ◌/◌, ◌%◌, ◌≤◌, zero, suc, arith, add-zero, add-one, reverse}
use Rattle.std.proofs.lemmas.List.{reverse-append, map-append, take_more, drop_more, length-drop, append-nil}
use Rattle.std.specs.List.{AllZip}
use Rattle.spindle_parts.specs.Pieces.{joined, counted, total, lengths_of}

-- one more at the end of both lists
pub all_zip_snoc : {A B : Type 0} (R : A → B → Type 0) (xs : List A) (ys : List B) (x : A) (y : B) → AllZip R xs ys → R x y
    → AllZip R (xs ++ x ∷ []) (ys ++ y ∷ [])
all_zip_snoc R [] [] x y z r = (r, tt)
all_zip_snoc R (a ∷ xs) (b ∷ ys) x y z r = (z.0, all_zip_snoc R xs ys x y z.1 r)
all_zip_snoc R xs ys x y z r = absurd z

-- two pairs of lists joined
pub all_zip_append : {A B : Type 0} (R : A → B → Type 0) (xs : List A) (ys : List B) (vs : List A) (ws : List B) → AllZip R xs ys → AllZip R vs ws
    → AllZip R (xs ++ vs) (ys ++ ws)
all_zip_append R [] [] vs ws z r = r
all_zip_append R (a ∷ xs) (b ∷ ys) vs ws z r = (z.0, all_zip_append R xs ys vs ws z.1 r)
all_zip_append R xs ys vs ws z r = absurd z

-- one more list joined at the end
pub joined_snoc : {A : Type 0} (xs : List (List A)) (x : List A) → joined (xs ++ x ∷ []) ≡ joined xs ++ x
joined_snoc [] x = append-nil x
joined_snoc (a ∷ xs) x = ap (λ t. a ++ t) (joined_snoc xs x) ∙ sym (append_assoc a (joined xs) x)

-- one more element under `map`
pub map_snoc : {A B : Type 0} (f : A → B) (xs : List A) (x : A) → map f (xs ++ x ∷ []) ≡ map f xs ++ f x ∷ []
map_snoc f [] x = refl
map_snoc f (a ∷ xs) x = ap (λ t. f a ∷ t) (map_snoc f xs x)

-- the sum of two lists joined
total-append : (xs ys : List ℕ) → total (xs ++ ys) ≡ total xs + total ys
total-append [] ys = sym (zero-add (total ys))
total-append (x ∷ xs) ys = ap (λ n. x + n) (total-append xs ys) ∙ sym (add_assoc x (total xs) (total ys))

-- the sum of a number so many times
total-replicate : (n x : ℕ) → total (replicate n x) ≡ n * x
total-replicate zero x = omega arith
total-replicate (suc n) x = grind (arith, total-replicate n x)

-- the longer and the shorter pieces add up
sums : (len m q r : ℕ) → m * q + r ≡ len → r ≤ m → r * (q + 1) + (m - r) * q ≡ len
sums len m q r e h = let d = m - r in let k : m ≡ r + d = omega arith in let e' : (r + d) * q + r ≡ len = rw (← k) e in grind arith

-- the lengths of the pieces add up
pub total-lengths : (len m : ℕ) → 0 < m → total (lengths_of len m) ≡ len
total-lengths len m h =
    let e = total-append (replicate (len % m) (len / m + 1)) (replicate (m - len % m) (len / m)) in let a = total-replicate (len % m) (len / m + 1) in
    let b = total-replicate (m - len % m) (len / m) in
    rw (e, a, b) (sums len m (len / m) (len % m) (omega arith) (omega arith))

-- one more number
pub counted_suc : (from n : ℕ) → counted from (suc n) ≡ counted from n ++ (from + n) ∷ []
counted_suc from zero = rw add-zero refl
counted_suc from (suc n) = let e : from + suc n ≡ from + 1 + n = omega arith in rw e (ap (λ t. from ∷ t) (counted_suc (from + 1) n))

pub counted_snoc : (from n : ℕ) → counted from (n + 1) ≡ counted from n ++ (from + n) ∷ []
counted_snoc from n = rw (add-one n) (counted_suc from n)

-- the sum up to a place and of it
pub total_last : (ls : List ℕ) (i : ℕ) → i < length ls → total (take (i + 1) ls) ≡ total (take i ls) + get_or ls i 0
total_last ls i h = rw (take_more ls i 0 h, total-append (take i ls) (get_or ls i 0 ∷ [])) (ap (λ n. total (take i ls) + n) (add-zero (get_or ls i 0)))

-- where a list goes on with x after n elements, it has more than n
longer : {A : Type 0} (xs : List A) (n : ℕ) (x : A) (ys : List A) → drop n xs ≡ x ∷ ys → n < length xs
longer xs n x ys e = omega (arith, length-drop n xs, ap length e)

-- one more is taken there
pub taken_next : {A : Type 0} (xs : List A) (n : ℕ) (x : A) (ys : List A) → drop n xs ≡ x ∷ ys → take (n + 1) xs ≡ take n xs ++ x ∷ []
taken_next xs n x ys e = let m = drop_more xs n x (longer xs n x ys e) in let t = take_more xs n x (longer xs n x ys e) in cc

-- one more is dropped there
pub dropped_next : {A : Type 0} (xs : List A) (n : ℕ) (x : A) (ys : List A) → drop n xs ≡ x ∷ ys → drop (n + 1) xs ≡ ys
dropped_next xs n x ys e = let m = drop_more xs n x (longer xs n x ys e) in cc

-- one more piece at the end is the first one of the reversed list
pub back_snoc : {P A : Type 0} (f : P → List A) (ps : List P) (p : P) → joined (reverse (map f (ps ++ p ∷ []))) ≡ f p ++ joined (reverse (map f ps))
back_snoc f ps p = rw (map_snoc f ps p, reverse-append (map f ps) (f p ∷ [])) refl

-- one more at the end comes first when the list is reversed
pub reverse_snoc : {A : Type 0} (xs : List A) (x : A) → reverse (xs ++ x ∷ []) ≡ x ∷ reverse xs
reverse_snoc xs x = rw (reverse-append xs (x ∷ [])) refl

-- a function of each element of the reversed list
pub map-reverse : {A B : Type 0} (f : A → B) (xs : List A) → map f (reverse xs) ≡ reverse (map f xs)
map-reverse f [] = refl
map-reverse f (x ∷ xs) =
    rw (reverse-append (x ∷ []) xs, reverse-append (f x ∷ []) (map f xs), map-append f (reverse xs) (x ∷ [])) (ap (λ t. t ++ f x ∷ []) (map-reverse f xs))
