-- What the leader finds left of a round that has ended,
-- and what that says of the numbers that began in it.
use Rattle.std.specs.Prelude.{◌≡◌, ◌⊎◌, ◌↔◌, ℕ, ◌+◌, ◌<◌, ◌≤◌, Bool, true, false, List, [], ◌∷◌}
use Rattle.std.specs.Prelude.{slice_index_or, Option, Some, None, if◌then◌else◌, ◌==◌}
use mathlib.Core.Option.{some}
use lib.ListN.{get_elem?}
use Rattle.atomic_table.specs.Table as table
use Rattle.atomic_table.specs.Table.{Me, Step}
use Rattle.spindle_parts.specs.declared.trail.Trace.{Trace}
use Rattle.spindle_parts.specs.State.{times}
use Rattle.spindle_rounds.specs.declared.round_table.view.Standing.{Standing}
use Rattle.spindle_rounds.specs.declared.round_table.view.Standing.TheVariants.{Inside}
use Rattle.spindle_rounds.specs.declared.round_table.view.Kind.{Kind}
use Rattle.spindle_rounds.specs.declared.round_table.view.View.{View}
use Rattle.spindle_rounds.specs.Words.{remainder_at, range_at}
use Rattle.spindle_rounds.specs.RoundSlots.{Discipline}
use Rattle.spindle_rounds.specs.RoundRule.{stored_at, Shown}
use Rattle.spindle_rounds.specs.RoundShown.{Showed, deeds_of, IsWithin}
use Rattle.spindle_rounds.specs.RoundSteps.{searching, reading_remainder}
use Rattle.spindle_rounds.specs.RoundConditions.{MayFill}
use Rattle.spindle_rounds.specs.RoundTrails.{begun_by, told_by_all}
use Rattle.spindle_rounds.specs.SlotSteps.{IsDeed}

-- a seat that stands so is inside a round in which its party has published nothing
abbrev pub is_between : Standing → Bool → Bool
is_between (Inside q) unpublished = unpublished
is_between _ unpublished = false

-- after a load of the word i that asks what is left:
-- between rounds the leader knows from then on what stands there
abbrev pub finding : {N : Type 0} → ℕ → ℕ → View N → View N
finding i found v = record v {
  known = record v.known {
    stored = if is_between v.standing v.known.unpublished then (i, found)
        ∷ v.known.stored else v.known.stored;
  };
}

-- a load of a range that asks what is left of it
abbrev pub FindTells : {S N : Type 0} → Step S → Me S (View N) → ℕ → Me S (View N) → Type 0
FindTells st m found m' = (m'.1 ≡ m.1) × ((i : ℕ) → st.word ≡ range_at i
    → m'.0 ≡ finding (range_at i) found (searching i found m.0))

-- what is left: the i-th range, or the remainder where i is t
abbrev pub LeftOverBy : {S N : Type 0} → ℕ → ℕ → ℕ → Me S (View N) → Me S (View N) → Type 0
LeftOverBy t i found m w = (i < t → w ≡ (finding (range_at i) found (searching i found m.0), m.1)) ×
    (i ≡ t → w ≡ (finding remainder_at found (reading_remainder found m.0), m.1))

-- what the newest of these steps on the word i left there
abbrev pub last_left : List (Trace Kind) → ℕ → Option ℕ
last_left [] i = None
last_left (x ∷ xs) i = if x.word == i then Some x.left else last_left xs i

-- the values of t ranges and of the remainder are known
abbrev pub AreKnown : (ℕ → Option ℕ) → ℕ → Type 0
AreKnown words t = ((i : ℕ) → i < t → (x : ℕ) × (words (range_at i) ≡ Some x))
    × ((x : ℕ) × (words remainder_at ≡ Some x))

-- by these values k, of n numbers, stands in one of the first i ranges
abbrev pub IsInRanges : (ℕ → Option ℕ) → (i k : ℕ) → Type 0
IsInRanges words i k = (j x : ℕ) × (j < i) × (words (range_at j) ≡ Some x) × IsWithin x k

-- by these values k, of n numbers, stands in the remainder
abbrev pub IsInRest : (ℕ → Option ℕ) → (n k : ℕ) → Type 0
IsInRest words n k = (x : ℕ) × (words remainder_at ≡ Some x) × (n ≤ k + x)

-- by these values k, of n numbers, is left in a range or in the remainder
abbrev pub IsLeftBy : (ℕ → Option ℕ) → (t n k : ℕ) → Type 0
IsLeftBy words t n k = (k < n) × (IsInRanges words t k ⊎ IsInRest words n k)

-- a leader's trail tells that k, of n numbers, was left where it looked last
abbrev pub IsFoundLeft : {N : Type 0} → View N → (t n k : ℕ) → Type 0
IsFoundLeft v = IsLeftBy (last_left v.trail)

module _ {S N : Type 0} (D : Discipline S N) where
  -- there is a moment at which the leader's seat knows this
  abbrev pub HasMoment : View N → Type 0
  HasMoment v = (t : ℕ) × (s : table.State S (View N)) × Shown D t s × (get_elem? s.views 0 ≡ some v)

  -- the same of the remainder: between rounds that is such a moment
  abbrev pub FindRestTells : Step S → Me S (View N) → ℕ → Me S (View N) → Type 0
  FindRestTells st m found m' = (m'.1 ≡ m.1)
      × (m'.0 ≡ finding remainder_at found (reading_remainder found m.0))
      × (MayFill m.0 → HasMoment m'.0)

  -- At every moment while the leader's seat knows this and no more, the numbers of which P holds
  -- are just those below n that haven't begun in the round q, as the trails of all seats tell
  abbrev pub AreUnbegun : (q n : ℕ) → View N → (ℕ → Type 0) → Type 0
  AreUnbegun q n v P = (t : ℕ) (s : table.State S (View N)) → Shown D t s
      → get_elem? s.views 0 ≡ some v
      → (k : ℕ) → P k ↔ ((k < n) × (times k (told_by_all (begun_by q) s.views) ≡ 0))

  -- The leader has published n jobs in the round q and stored nothing for another;
  -- it is between rounds, and knows what ranges and remainder hold.
  -- Then these stand for the numbers that haven't begun in that round.
  abbrev pub EveryLeftover : Type 0
  EveryLeftover = (v : View N) (q n : ℕ) (may_stop : Bool) → MayFill v → v.laid ≡ Some q
      → IsDeed (Showed q n may_stop) (deeds_of v.trail)
      → AreKnown (stored_at v.known.stored) v.threads
      → AreUnbegun q n v (IsLeftBy (stored_at v.known.stored) v.threads n)

-- the number k is marked
abbrev pub IsMarked : List Bool → ℕ → Type 0
IsMarked marks k = slice_index_or marks k false ≡ true
