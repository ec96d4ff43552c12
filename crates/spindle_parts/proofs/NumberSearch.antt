-- What a try for a number has read, word by word.
use Rattle.std.proofs.Common.{◌≡◌, ℕ, zero, suc, ◌+◌, ◌*◌, ◌/◌, ◌%◌, ◌<◌, ◌≤◌, sym, refl, ap, ◌∙◌, subst, arith}
use Rattle.std.specs.Int.{bit_at}
use Rattle.atomic_table.specs.declared.shared.Seat.{Seat}
use Rattle.spindle_parts.specs.State.{put}
use Rattle.spindle_parts.proofs.Parties.{by_order, put_here, put_else}
use Rattle.spindle_parts.specs.declared.numbers.plays.Holding.TheVariants.{Nothing, Has}
use Rattle.spindle_parts.specs.declared.numbers.plays.View.{View}
use Rattle.spindle_parts.specs.declared.numbers.Take.{Take}
use Rattle.spindle_parts.specs.declared.numbers.Take.TheVariants.{Taken, AllInUse, Again}
use Rattle.spindle_parts.specs.ThreadNumbers.{holding_after, NumberTable, IsSeatOf, IsSameSeat, loading, reading, searching, WasUsed, IsLeastUnused, IsTake}
use Rattle.spindle_parts.specs.ThreadNumbers.{IsExchange, word_count}

pub reading-holding : (found : ℕ → ℕ) (n : ℕ) (v : View) → (reading found n v).holding ≡ v.holding
reading-holding found zero v = refl
reading-holding found (suc n) v = reading-holding found n v

-- only the first n values count
reading_same : (f g : ℕ → ℕ) (n : ℕ) (v : View) → ((j : ℕ) → j < n → f j ≡ g j) → reading f n v ≡ reading g n v
reading_same f g zero v same = refl
reading_same f g (suc n) v same = let rest = reading_same f g n v (λ j lt. same j (omega arith)) in (λ i. loading (8 * n) (same n (omega arith) i) (rest i))

-- as far as the word i, each number below the threads was read as used
abbrev pub ReadTo : (threads i : ℕ) → (ℕ → ℕ) → Type 0
ReadTo threads i found = (k : ℕ) → k < threads → k < 32 * i → WasUsed found k

module _ (threads i x : ℕ) (found : ℕ → ℕ) where
  pub reading_next : (v : View) → reading (put found i x) (suc i) v ≡ loading (8 * i) x (reading found i v)
  reading_next v =
      let rest = reading_same (put found i x) found i v (λ k lt. put_else found i x k (λ e. omega arith)) in
      (λ j. loading (8 * i) (put_here found i x j) (rest j))

  -- a number of an earlier word
  earlier : (k : ℕ) → k < 32 * i → WasUsed found k → WasUsed (put found i x) k
  earlier k lt h = ap (λ (y : ℕ). bit_at y (k % 32)) (put_else found i x (k / 32) (λ e. omega arith)) ∙ h

  -- a number of the word i
  here : (k : ℕ) → k / 32 ≡ i → bit_at (put found i x (k / 32)) (k % 32) ≡ bit_at x (k % 32)
  here k e = ap (λ (y : ℕ). bit_at y (k % 32)) (ap (put found i x) e ∙ put_here found i x)

  -- the word's bits below b are set
  abbrev pub AreOnes : ℕ → Type 0
  AreOnes b = (c : ℕ) → c < b → c < 32 → bit_at x c ≡ 1

  all_before : (b : ℕ) → AreOnes b → ReadTo threads i found → (k : ℕ) → k < threads → k < 32 * i + b → k < 32 * (i + 1) → WasUsed (put found i x) k
  all_before b ones h k small lt near = by_order (32 * i) k
      (λ le. let e : k / 32 ≡ i = omega arith in here k e ∙ ones (k % 32) (omega arith) (omega arith))
      (λ n. earlier k (omega arith) (h k small (omega arith)))

  -- the whole word was read as used, as far as the threads go
  pub read_next : (b : ℕ) → AreOnes b → (b < 32 → threads ≤ 32 * i + b) → ReadTo threads i found → ReadTo threads (i + 1) (put found i x)
  read_next b ones past h k small near = by_order 32 b
      (λ le. all_before b ones h k small (omega arith) near)
      (λ n. let p = past (omega arith) in all_before b ones h k small (omega arith) near)

  pub least_here : (b : ℕ) → b < 32 → 32 * i + b < threads → bit_at x b ≡ 0 → AreOnes b → ReadTo threads i found → IsLeastUnused (put found i x) (32 * i + b)
  least_here b low below unset ones h =
      let e : (32 * i + b) / 32 ≡ i = omega arith in
      let m : (32 * i + b) % 32 ≡ b = omega arith in
      (here (32 * i + b) e ∙ ap (bit_at x) m ∙ unset, λ k lt. all_before b ones h k (omega arith) lt (omega arith))

-- the answer of the exchange is that of the try
pub take_answer : (threads t : ℕ) (found : ℕ → ℕ) (a : Take) (v w : View) → t < threads → IsLeastUnused found t
    → IsExchange t (found (t / 32)) a (searching found t v) w → IsTake threads a v w
take_answer threads t found (Taken u) v w lt least e = subst (λ (z : ℕ). IsTake threads (Taken z) v w) (sym e.0) (found, lt, least, e.1)
take_answer threads t found AllInUse v w lt least e = absurd e
take_answer threads t found Again v w lt least e = (found, t, e.0, lt, least, e.1, e.2)

-- only a number that is taken changes what the seat has
pub take_holding : (threads : ℕ) (a : Take) (v w : View) → v.holding ≡ Nothing → IsTake threads a v w → w.holding ≡ holding_after a
take_holding threads (Taken t) v w none_yet h = ap (λ u. u.holding) h.3
take_holding threads AllInUse v w none_yet h = ap (λ u. u.holding) h.2 ∙ (reading-holding h.0 (word_count threads) v ∙ none_yet)
take_holding threads Again v w none_yet h = ap (λ u. u.holding) h.6 ∙ (reading-holding h.0 (suc (h.1 / 32)) v ∙ none_yet)

-- the number taken is below the threads
pub take_below : (threads : ℕ) (a : Take) (v w : View) → IsTake threads a v w → w.holding ≡ holding_after a → (k : ℕ) → w.holding ≡ Has k → k < threads
take_below threads (Taken t) v w h after k has = let e : Has t ≡ Has k = sym after ∙ has in let same : t ≡ k = cc in let lt = h.1 in omega arith
take_below threads a v w h after k has = let e : Nothing ≡ Has k = sym after ∙ has in absurd cc

-- the number b of the word i is tried, whose word was found as x
module _ (threads i b x : ℕ) (found : ℕ → ℕ) (low : b < 32) (below : 32 * i + b < threads) (unset : bit_at x b ≡ 0)
    (ones : (c : ℕ) → c < b → bit_at x c ≡ 1) (read : ReadTo threads i found) where
  abbrev pub t : ℕ
  t = 32 * i + b

  word_is : t / 32 ≡ i
  word_is = omega arith

  -- what the call has found in each word
  abbrev pub found' : ℕ → ℕ
  found' = put found i x

  pub try_answer : (a : Take) (v u w : View) → u ≡ loading (8 * i) x (reading found i v) → IsExchange t x a u w → IsTake threads a v w
  try_answer a v u w is e =
      let least = least_here threads i x found b low below unset (λ c lt _. ones c lt) read in
      let word : x ≡ found' (t / 32) = sym (ap found' word_is ∙ put_here found i x) in
      let read_it : u ≡ searching found' t v = is ∙ (sym (reading_next threads i x found v) ∙ ap (λ (j : ℕ). reading found' (suc j) v) (sym word_is)) in
      let at_word = subst (λ (y : View). IsExchange t x a y w) read_it e in
      take_answer threads t found' a v w below least (subst (λ (y : ℕ). IsExchange t y a (searching found' t v) w) word at_word)

-- ---- seats

abbrev pub Place : Type 0
Place = Seat (Unit {0}) View

pub then_same : {a b c : Place} → IsSameSeat a b → IsSameSeat b c → IsSameSeat a c
then_same s r = record { table = r.table ∙ s.table; id = r.id ∙ s.id; slots = r.slots ∙ s.slots }

pub still_seated : (t : NumberTable) (old new : Place) → IsSeatOf t old → IsSameSeat old new
    → ((k : ℕ) → new.me.0.holding ≡ Has k → k < t.threads) → IsSeatOf t new
still_seated t old new seated same below = record { table = same.table ∙ seated.table; below = below }
