-- How many jobs a round has, and the room for its outputs.
use Rattle.std.proofs.Common.{◌≡◌, ◌≢◌, ◌==◌, ℕ, zero, suc, ◌+◌, ◌<◌, ◌≤◌, min, false, List, length, ap, arith}
use Rattle.spindle_parts.specs.Pieces.{counted}
use Rattle.spindle_parts.proofs.Deals.{length-counted}

-- where there is a job, and not just one, there are two
pub two_or_more : (count n slots : ℕ) → count ≡ n → n ≢ 0 → n ≢ 1 → n ≤ slots → (2 ≤ count) × (count ≤ slots)
two_or_more count n slots same some more few = (omega arith, omega arith)

-- a list that is tested not to be empty has items
pub not_empty : {P : Type 0} (len : ℕ) → false ≡ (len == 0) → len ≡ 0 → P
not_empty zero some none = absurd cc
not_empty (suc len) some none = absurd (omega (arith, none))

-- of some items there is a job at least, and no more than there are items or slots
pub some_jobs : (len n slots given least jobs : ℕ) → false ≡ (len == 0) → (0 < len → 0 < n) → 1 ≤ slots → given ≡ len → least ≡ min n slots
    → jobs ≡ min given least → (0 < jobs) × (jobs ≤ len) × (jobs ≤ slots)
some_jobs zero n slots given least jobs none asked some all few is = absurd cc
some_jobs (suc len) n slots given least jobs there asked some all few is =
    let most : 0 < n = asked (omega arith) in (omega arith, omega arith, omega arith)

-- and if it isn't the only one, there are two
pub two_jobs : (count jobs slots told : ℕ) → count ≡ jobs → 0 < jobs → jobs ≢ 1 → jobs ≤ slots → slots ≡ told → (2 ≤ count) × (count ≤ told)
two_jobs count jobs slots told same some more few is = (omega arith, omega arith)

-- an empty list with room for one item takes it
pub one_has_room : (n len cap : ℕ) → n ≡ 1 → len ≡ 0 → n ≤ cap → len < cap
one_has_room n len cap one none room = omega arith

-- room for as many items as a list has is room for the same items
pub all_have_room : {T : Type 0} (all items : List T) (len more left cap : ℕ) → all ≡ items → len ≡ length items → more ≡ len → left + more ≤ cap
    → length all ≤ cap
all_have_room all items len more left cap same long asked room = omega (arith, ap length same)

-- and room for so many outputs is room for those of the numbers
pub numbers_have_room : (count n cap : ℕ) → count ≡ n → n ≤ cap → length (counted 0 count) ≤ cap
numbers_have_room count n cap same room = omega (arith, length-counted 0 count)
