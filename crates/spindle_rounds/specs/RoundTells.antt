-- What each kind of step on a round table tells its seat (`JoinTells`).
-- What becomes of its view by it is in RoundSteps (`joining`).
use Rattle.std.specs.Prelude.{◌≡◌, ◌≢◌, ℕ, ◌-◌, ◌%◌, ◌<◌, ◌≤◌, Bool, true, false, Option, Some}
use Rattle.atomic_table.specs.Table.{Me, Step, carried_after}
use Rattle.spindle_rounds.specs.declared.round_table.view.Standing.TheVariants.{Inside}
use Rattle.spindle_rounds.specs.declared.round_table.view.View.{View}
use Rattle.spindle_rounds.specs.Words.{range_at, high_half, sense_of, start_of}
use Rattle.spindle_rounds.specs.RoundSlots.{Discipline}
use Rattle.spindle_rounds.specs.RoundSteps.{loading, missing, joining, arriving, looking, leaving}
use Rattle.spindle_rounds.specs.RoundSteps.{exiting, closer_reading, clearing, ending, learning}
use Rattle.spindle_rounds.specs.RoundSteps.{filling, publishing, searching, reading_remainder}
use Rattle.spindle_rounds.specs.RoundSteps.{recalling, claiming, stolen_from, stealing}
use Rattle.spindle_rounds.specs.RoundSteps.{claiming_remainder, number_or, sharing, finishing}
use Rattle.spindle_rounds.specs.RoundSteps.{stopping, seeing, putting_back}

module _ {S N : Type 0} where
  -- the step leaves the seat's slots, and makes its view a function of the value found
  abbrev pub Turns : (ℕ → View N → View N) → Step S → Me S (View N) → ℕ → Me S (View N) → Type 0
  Turns f st m found m' = (m'.1 ≡ m.1) × (m'.0 ≡ f found m.0)

  -- the same of an exchange, which does it where it found what it expected
  abbrev pub Exchanges : (ℕ → View N → View N) → Step S → Me S (View N) → ℕ → Me S (View N) → Type 0
  Exchanges f st m found m' = (m'.1 ≡ m.1) × (found ≡ st.first → m'.0 ≡ f found m.0)
      × (found ≢ st.first → m'.0 ≡ missing st.word found m.0)

  -- an exchange with which a number begins
  abbrev pub Begun : Discipline S N → (ℕ → ℕ) → (ℕ → Option N → View N → View N) → Step S
      → Me S (View N) → ℕ → Me S (View N) → Type 0
  Begun D number f st m found m' = (found ≡ st.first → (x : Option N) × (m'.0 ≡ f found x m.0)
      × D.took (number found) m.1 x m'.1) ×
      (found ≢ st.first → (m'.1 ≡ m.1) × (m'.0 ≡ missing st.word found m.0))

-- The barrier word.

-- a load of the barrier word, whose high half is 0
abbrev pub LoadTells : {S N : Type 0} → Step S → Me S (View N) → ℕ → Me S (View N) → Type 0
LoadTells st m found m' = (m'.1 ≡ m.1) × (m'.0 ≡ loading st.word found m.0) × (found < high_half)

-- a party that joins may have seen the stop of this round before
abbrev pub JoinTells : {S N : Type 0} → Step S → Me S (View N) → ℕ → Me S (View N) → Type 0
JoinTells st m found m' = (m'.1 ≡ m.1) × (found ≡ st.first → (q : ℕ) × (seen : Bool)
    × (q % 2 ≡ sense_of found) × (m'.0 ≡ joining q seen found m.0)) ×
    (found ≢ st.first → m'.0 ≡ missing st.word found m.0)

-- an arrival
abbrev pub ArrivalTells : {S N : Type 0} → Step S → Me S (View N) → ℕ → Me S (View N) → Type 0
ArrivalTells = Turns arriving

-- a look
abbrev pub LookTells : {S N : Type 0} → Step S → Me S (View N) → ℕ → Me S (View N) → Type 0
LookTells st m found m' = (m'.1 ≡ m.1) × (m'.0 ≡ looking found m.0) × (found < high_half)

-- a leave
abbrev pub LeaveTells : {S N : Type 0} → Step S → Me S (View N) → ℕ → Me S (View N) → Type 0
LeaveTells = Exchanges leaving

-- an exit
abbrev pub ExitTells : {S N : Type 0} → Step S → Me S (View N) → ℕ → Me S (View N) → Type 0
ExitTells = Exchanges exiting

-- the closer's load
abbrev pub CloserReadTells : {S N : Type 0} → Step S → Me S (View N) → ℕ → Me S (View N) → Type 0
CloserReadTells st m found m' = (m'.1 ≡ m.1) × (m'.0 ≡ closer_reading found m.0)
    × (found < high_half)

-- a clear
abbrev pub ClearTells : {S N : Type 0} → Step S → Me S (View N) → ℕ → Me S (View N) → Type 0
ClearTells = Turns clearing

-- the end of a round
abbrev pub EndTells : {S N : Type 0} → Step S → Me S (View N) → ℕ → Me S (View N) → Type 0
EndTells = Turns ending

-- Publishing.

-- a load of the published word
abbrev pub LearnTells : {S N : Type 0} → Step S → Me S (View N) → ℕ → Me S (View N) → Type 0
LearnTells = Turns learning

-- a store for a round to come
abbrev pub FillTells : {S N : Type 0} → Step S → Me S (View N) → ℕ → Me S (View N) → Type 0
FillTells st = Turns (filling st.word) st

-- a publish
abbrev pub PublishTells : {S N : Type 0} → Step S → Me S (View N) → ℕ → Me S (View N) → Type 0
PublishTells = Turns (publishing false)

-- a publish of a round that may stop
abbrev pub PublishTryTells : {S N : Type 0} → Step S → Me S (View N) → ℕ → Me S (View N) → Type 0
PublishTryTells = Turns (λ stored. publishing true (stored % high_half))

-- Claims.

-- a load of a range
abbrev pub SearchTells : {S N : Type 0} → Step S → Me S (View N) → ℕ → Me S (View N) → Type 0
SearchTells st m found m' = (m'.1 ≡ m.1) × ((i : ℕ) → st.word ≡ range_at i
    → m'.0 ≡ searching i found m.0)

-- a load of the remainder: who knows the number finds no more than that
abbrev pub RemainderReadTells : {S N : Type 0} → Step S → Me S (View N) → ℕ → Me S (View N) → Type 0
RemainderReadTells st m found m' = (m'.1 ≡ m.1) × (m'.0 ≡ reading_remainder found m.0) ×
    ((q n : ℕ) → m.0.standing ≡ Inside q → m.0.known.number ≡ Some n → found ≤ n)

-- who knows the number finds it again
abbrev pub RecallTells : {S N : Type 0} → Step S → Me S (View N) → ℕ → Me S (View N) → Type 0
RecallTells st m found m' = (m'.1 ≡ m.1) × ((q n : ℕ) → m.0.standing ≡ Inside q
    → m.0.known.number ≡ Some n → (m'.0 ≡ recalling n m.0) ×
    (found % high_half ≡ n))

-- a claim of the front of a range
abbrev pub ClaimTells : {S N : Type 0} → Discipline S N → Step S → Me S (View N) → ℕ → Me S (View N)
    → Type 0
ClaimTells D st = Begun D start_of (claiming st.word) st

-- a steal
abbrev pub StealTells : {S N : Type 0} → Discipline S N → Step S → Me S (View N) → ℕ → Me S (View N)
    → Type 0
StealTells D st = Begun D stolen_from (stealing st.word) st

-- a claim on the remainder
abbrev pub RemainderClaimTells : {S N : Type 0} → Discipline S N → Step S → Me S (View N) → ℕ
    → Me S (View N) → Type 0
RemainderClaimTells D st m = Begun D (λ found. number_or m.0.known.number - found)
    (claiming_remainder (number_or m.0.known.number)) st m

-- a store with which a number of the share begins
abbrev pub ShareTells : {S N : Type 0} → Discipline S N → Step S → Me S (View N) → ℕ → Me S (View N)
    → Type 0
ShareTells {N = N} D st m stored m' = (x : Option N) × (m'.0 ≡ sharing st.word stored x m.0)
    × D.took m.0.from m.1 x m'.1

-- a finish: the claim's slot goes back
abbrev pub FinishTells : {S N : Type 0} → Discipline S N → Step S → Me S (View N) → ℕ
    → Me S (View N) → Type 0
FinishTells D st m found m' = (m'.1 ≡ carried_after m.1 D.gives) × (m'.0 ≡ finishing found m.0)

-- Stopping.

-- the store of a stop
abbrev pub StopTells : {S N : Type 0} → Step S → Me S (View N) → ℕ → Me S (View N) → Type 0
StopTells = Turns stopping

-- a load of the word `stopped`, which is 0 or 1
abbrev pub SeeTells : {S N : Type 0} → Step S → Me S (View N) → ℕ → Me S (View N) → Type 0
SeeTells st m found m' = (m'.1 ≡ m.1) × (m'.0 ≡ seeing found m.0) × (found ≤ 1)

-- the exchange that puts a share back
abbrev pub PutBackTells : {S N : Type 0} → Step S → Me S (View N) → ℕ → Me S (View N) → Type 0
PutBackTells st = Exchanges (putting_back st.word) st
