-- The ledger of helper requests: what each step moves, and what words and seats show of it.
-- Counts are natural numbers with no upper bound; a word shows its count modulo 2^64.
use Rattle.std.specs.Prelude.{◌≡◌, ◌⊎◌, ℕ, zero, suc, ◌+◌, ◌-◌, ◌*◌, ◌%◌, ◌^◌, ◌<◌, ◌≤◌, List}
use Rattle.std.specs.Prelude.{length, sum_by, slice_index, if◌then◌else◌, ◌==◌}
use mathlib.Core.Option.{some}
use lib.ListN.{get_elem?}
use Rattle.atomic_table.specs.Table.{State}
use Rattle.spindle_parts.specs.declared.trail.Trace.{Trace}
use Rattle.spindle_parts.specs.declared.words.TheConstants.{LINE, REQUESTS, EXIT, REST, PLACES}
use Rattle.spindle_parts.specs.declared.requests.plays.Kind.{Kind}
use Rattle.spindle_parts.specs.declared.requests.plays.Kind.TheVariants.{Ask, Subtract, Install}
use Rattle.spindle_parts.specs.declared.requests.plays.Kind.TheVariants.{Take, Close}
use Rattle.spindle_parts.specs.declared.requests.plays.Account.{Account}

-- the word of the places of the child slot i
abbrev pub place_word : ℕ → ℕ
place_word i = PLACES + LINE * i

-- the words of the two flags: exit announced, rest announced
abbrev pub IsFlag : ℕ → Type 0
IsFlag word = (word ≡ EXIT) ⊎ (word ≡ REST)

-- what a step of a kind adds to its seat's credit, by the value that it found
abbrev pub gain : Kind → ℕ → ℕ
gain (Ask n) found = n
gain Take found = 1
gain Close found = found
gain _ found = 0

-- what it takes from that credit
abbrev pub cost : Kind → ℕ
cost (Install n) = n
cost (Subtract n) = n
cost _ = 0

-- how many places it opens
abbrev pub opened : Kind → ℕ
opened (Install n) = n
opened _ = 0

-- how many places it fills or closes
abbrev pub removed : Kind → ℕ → ℕ
removed Take found = 1
removed Close found = found
removed _ found = 0

-- a seat's credit is what it asked, took and closed, less what it installed and subtracted
abbrev pub IsCredit : Account → Type 0
IsCredit v =
    v.credit + sum_by (λ x. cost x.kind) v.trail ≡ sum_by (λ x. gain x.kind x.found) v.trail

-- f of a step at the slot i, and 0 of any other
abbrev pub onto : ℕ → (Trace Kind → ℕ) → Trace Kind → ℕ
onto i f x = if x.word == place_word i then f x else 0

-- the sum of f over the trails of all seats
abbrev pub over_trails : (Trace Kind → ℕ) → List Account → ℕ
over_trails f views = sum_by (λ v. sum_by f v.trail) views

-- the places that all seats opened at the slot i
abbrev pub opened_at : ℕ → List Account → ℕ
opened_at i views = over_trails (onto i (λ x. opened x.kind)) views

-- the places that all seats filled or closed at the slot i
abbrev pub removed_at : ℕ → List Account → ℕ
removed_at i views = over_trails (onto i (λ x. removed x.kind x.found)) views

-- the unfilled places of the slot i
abbrev pub unfilled : List Account → ℕ → ℕ
unfilled views i = opened_at i views - removed_at i views

-- the sum of f over the numbers below n
abbrev pub total : (ℕ → ℕ) → ℕ → ℕ
total f zero = 0
total f (suc n) = total f n + f n

-- the credits of all seats
abbrev pub credits_of : List Account → ℕ
credits_of views = sum_by (λ v. v.credit) views

-- the requests that stand: the unfilled places and the credits of all seats
abbrev pub standing : ℕ → List Account → ℕ
standing slots views = total (unfilled views) slots + credits_of views

-- the unfilled places that the words of the slots show
abbrev pub shown_places : ℕ → List ℕ → ℕ
shown_places slots words = total (λ i. slice_index words (place_word i)) slots

-- the books balance: requests are those that stand, as the words count
pub record Balanced (slots : ℕ) (s : State (Unit {0}) Account) : Type 0 where
  pub wide : length s.words ≡ place_word slots
  pub credits : (p : ℕ) (v : Account) → get_elem? s.views p ≡ some v → IsCredit v
  pub never_below : (i : ℕ) → i < slots → removed_at i s.views ≤ opened_at i s.views
  pub places : (i : ℕ) → i < slots
      → slice_index s.words (place_word i) ≡ unfilled s.views i % 2 ^ 64
  pub requests : slice_index s.words REQUESTS ≡ standing slots s.views % 2 ^ 64
  pub flags : (word : ℕ) → IsFlag word → slice_index s.words word ≤ 1

-- Requests are the unfilled places and all credits: by the trails of the seats, and by the
-- words of the slots. Each seat's credit is that of its own trail
pub record BooksBalance (slots : ℕ) (s : State (Unit {0}) Account) : Type 0 where
  pub by_trails : slice_index s.words REQUESTS ≡ standing slots s.views % 2 ^ 64
  pub by_words : slice_index s.words REQUESTS
      ≡ (shown_places slots s.words + credits_of s.views) % 2 ^ 64
  pub credits : (p : ℕ) (v : Account) → get_elem? s.views p ≡ some v → IsCredit v

-- no word has wrapped
pub record IsExact (slots : ℕ) (s : State (Unit {0}) Account) : Type 0 where
  pub places : (i : ℕ) → i < slots → slice_index s.words (place_word i) ≡ unfilled s.views i
  pub requests : slice_index s.words REQUESTS ≡ standing slots s.views
