-- Thread numbers: who has which, the words that show it, and what each step and each answer says.
use Rattle.std.specs.Prelude.{◌≡◌, ◌≢◌, ℕ, zero, suc, ◌+◌, ◌-◌, ◌*◌, ◌/◌, ◌%◌, ◌^◌, ◌<◌, List, []}
use Rattle.std.specs.Prelude.{◌∷◌, length, slice_index, Option, Some, None}
use Rattle.std.specs.Int.{bit_at}
use mathlib.Core.Option.{some}
use lib.ListN.{get_elem?}
use Rattle.atomic_table.specs.Table.{State, Me, Step}
use Rattle.atomic_table.specs.Seated.{TableId}
use Rattle.atomic_table.specs.declared.shared.Seat.{Seat}
use Rattle.spindle_parts.specs.Trail.{trace}
use Rattle.spindle_parts.specs.declared.trail.Trace.{Trace}
use Rattle.spindle_parts.specs.declared.words.TheConstants.{LINE, BITS}
use Rattle.spindle_parts.specs.declared.numbers.plays.Kind.{Kind}
use Rattle.spindle_parts.specs.declared.numbers.plays.Kind.TheVariants as kind
use Rattle.spindle_parts.specs.declared.numbers.plays.Holding.{Holding}
use Rattle.spindle_parts.specs.declared.numbers.plays.Holding.TheVariants.{Nothing, Leads, Has}
use Rattle.spindle_parts.specs.declared.numbers.plays.View.{View}
use Rattle.spindle_parts.specs.declared.numbers.Take.{Take}
use Rattle.spindle_parts.specs.declared.numbers.Take.TheVariants.{Taken, AllInUse, Again}

-- what a caller sees of a numbers table: which table it is, and the lock's threads
pub record NumberTable : Type 0 where
  pub table : TableId
  pub threads : ℕ

-- a word for so many numbers
abbrev pub word_count : ℕ → ℕ
word_count threads = (threads + (BITS - 1)) / BITS

-- where a number's word stands
abbrev pub place_of : ℕ → ℕ
place_of k = LINE * (k / BITS)

-- the number's bit in its word
abbrev pub bit_of : ℕ → ℕ
bit_of k = k % BITS

-- the number's bit is set
abbrev pub IsSet : List ℕ → ℕ → Type 0
IsSet ws k = bit_at (slice_index ws (place_of k)) (bit_of k) ≡ 1

-- the number that a seat has, if it has one
abbrev pub number_of : Holding → Option ℕ
number_of Nothing = None
number_of Leads = Some 0
number_of (Has k) = Some k

-- the p-th seat has the number k
abbrev pub HasNumber : List View → ℕ → ℕ → Type 0
HasNumber views p k = (v : View) × (get_elem? views p ≡ some v) × (number_of v.holding ≡ Some k)

-- The numbers in use differ, 0 is the leader's, and all are below the lock's threads.
-- The set bits are theirs
pub record IsNumbering (threads : ℕ) (s : State (Unit {0}) View) : Type 0 where
  pub leader : (v : View) × (get_elem? s.views 0 ≡ some v) × (v.holding ≡ Leads)
  pub differ : (p q k : ℕ) → HasNumber s.views p k → HasNumber s.views q k → p ≡ q
  pub below : (p k : ℕ) → HasNumber s.views p k → k < threads
  pub set : (p k : ℕ) → HasNumber s.views p k → IsSet s.words k
  pub used : (k : ℕ) → IsSet s.words k → (p : ℕ) × HasNumber s.views p k
  pub narrow : (i : ℕ) → slice_index s.words i < 2 ^ BITS
  pub wide : length s.words ≡ LINE * word_count threads

-- Two seats that have a number have different ones, 0 is the leader's alone,
-- and each is below the lock's threads
pub record NumbersDiffer (threads : ℕ) (views : List View) : Type 0 where
  pub differ : (p q j k : ℕ) → p ≢ q → HasNumber views p j → HasNumber views q k → j ≢ k
  pub leader : HasNumber views 0 0
  pub others : (p k : ℕ) → p ≢ 0 → HasNumber views p k → 0 < k
  pub below : (p k : ℕ) → HasNumber views p k → k < threads

-- the leader's seat, fresh
abbrev pub leader_view : View
leader_view = record { holding = Leads; trail = [] }

-- a seat with no number
abbrev pub outsider_view : View
outsider_view = record { holding = Nothing; trail = [] }

-- the seat as it was
abbrev pub same_view : View → View
same_view v = v

-- one step more in the trail
abbrev pub noted : Trace Kind → View → View
noted x v = record v { trail = x ∷ v.trail }

-- the seat has loaded the word i
abbrev pub loading : (i found : ℕ) → View → View
loading i found = noted (trace i kind.Load found found)

-- an exchange on the word i found another value than was loaded
abbrev pub missing : (i found : ℕ) → View → View
missing i found = noted (trace i kind.Miss found found)

-- the seat takes the number t, whose word was `found`
abbrev pub taking : (t found : ℕ) → View → View
taking t found v =
    record (noted (trace (place_of t) kind.Take found (found + 2 ^ bit_of t)) v) { holding = Has t }

-- the seat gives its number t
abbrev pub giving : (t found : ℕ) → View → View
giving t found v =
    record (noted (trace (place_of t) kind.Give found (found - 2 ^ bit_of t)) v)
    { holding = Nothing }

-- what a seat knows, and the slots that it holds: always none
abbrev pub Sat : Type 0
Sat = Me (Unit {0}) View

-- what a load tells its seat
abbrev pub loaded : Step (Unit {0}) → Sat → ℕ → Sat → Type 0
loaded st m found m' = (m'.1 ≡ m.1) × (m'.0 ≡ loading st.word found m.0) × (found < 2 ^ BITS)

-- the exchange asks for the bit of t
abbrev pub AsksFor : ℕ → Step (Unit {0}) → Type 0
AsksFor t st = (st.word ≡ place_of t) × (st.second ≡ st.first + 2 ^ bit_of t)

-- what an exchange tells: the seat has the number that it asked for, or another value was found
abbrev pub taken : Step (Unit {0}) → Sat → ℕ → Sat → Type 0
taken st m found m' =
    (m'.1 ≡ m.1)
    × (found ≡ st.first → (t : ℕ) → AsksFor t st → m'.0 ≡ taking t found m.0)
    × (found ≢ st.first → m'.0 ≡ missing st.word found m.0)

-- what giving a number tells
abbrev pub given : Step (Unit {0}) → Sat → ℕ → Sat → Type 0
given st m found m' = (m'.1 ≡ m.1) × ((t : ℕ) → m.0.holding ≡ Has t → m'.0 ≡ giving t found m.0)

-- the seat after the loads of the first n words, of which the j-th found `found j`
abbrev pub reading : (found : ℕ → ℕ) (n : ℕ) → View → View
reading found zero v = v
reading found (suc n) v = loading (LINE * n) (found n) (reading found n v)

-- the number k was read as used
abbrev pub WasUsed : (ℕ → ℕ) → ℕ → Type 0
WasUsed found k = bit_at (found (k / BITS)) (bit_of k) ≡ 1

-- t is the least number that was read as unused
abbrev pub IsLeastUnused : (ℕ → ℕ) → ℕ → Type 0
IsLeastUnused found t =
    (bit_at (found (t / BITS)) (bit_of t) ≡ 0) × ((k : ℕ) → k < t → WasUsed found k)

-- the seat after it has read as far as the word of t
abbrev pub searching : (ℕ → ℕ) → ℕ → View → View
searching found t = reading found (suc (t / BITS))

-- what an answer of `try_take` says of the values found, and of the seat before and after
abbrev pub IsTake : (threads : ℕ) → Take → View → View → Type 0
IsTake threads (Taken t) v w =
    (found : ℕ → ℕ) × (t < threads) × IsLeastUnused found t
    × (w ≡ taking t (found (t / BITS)) (searching found t v))
IsTake threads AllInUse v w =
    (found : ℕ → ℕ) × ((k : ℕ) → k < threads → WasUsed found k)
    × (w ≡ reading found (word_count threads) v)
IsTake threads Again v w =
    (found : ℕ → ℕ) × (t other : ℕ) × (t < threads) × IsLeastUnused found t
    × (other ≢ found (t / BITS)) × (w ≡ missing (place_of t) other (searching found t v))

-- what a seat that had no number has after an answer
abbrev pub holding_after : Take → Holding
holding_after (Taken t) = Has t
holding_after AllInUse = Nothing
holding_after Again = Nothing

-- what an answer of the exchange for t says, whose word was read as `word`
abbrev pub IsExchange : (t word : ℕ) → Take → View → View → Type 0
IsExchange t word (Taken u) v w = (u ≡ t) × (w ≡ taking t word v)
IsExchange t word AllInUse v w = ⊥
IsExchange t word Again v w = (other : ℕ) × (other ≢ word) × (w ≡ missing (place_of t) other v)

-- a seat of the table, whose number is below the lock's threads
pub record IsSeatOf (t : NumberTable) (seat : Seat (Unit {0}) View) : Type 0 where
  pub table : seat.table_id ≡ t.table
  pub below : (k : ℕ) → seat.me.0.holding ≡ Has k → k < t.threads

-- the same seat, with what it holds of slots
pub record IsSameSeat (old new : Seat (Unit {0}) View) : Type 0 where
  pub table : new.table_id ≡ old.table_id
  pub id : new.id ≡ old.id
  pub slots : new.me.1 ≡ old.me.1
