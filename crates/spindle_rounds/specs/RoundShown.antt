-- What the words and the seats of a round table show of a run: what a reader has to believe.
use Rattle.std.specs.Prelude.{◌≡◌, ◌≢◌, ◌⊎◌, ℕ, suc, ◌+◌, ◌/◌, ◌%◌, ◌<◌, ◌≤◌, Bool, true}
use Rattle.std.specs.Prelude.{false, List, [], ◌∷◌, ◌++◌, length, slice_index, Option, Some, None}
use Rattle.std.specs.Prelude.{if◌then◌else◌, ◌==◌, nat_lt}
use Rattle.spindle_parts.specs.State.{State, Out, In, Arrived, now, party, Free}
use Rattle.spindle_parts.specs.Steps.{Event, Publish, PublishTry, Begin, Finish, Stop, by}
use Rattle.spindle_parts.specs.Runs.{state}
use Rattle.spindle_parts.specs.BarrierWord.{word}
use Rattle.spindle_parts.specs.declared.trail.Trace.{Trace}
use Rattle.spindle_rounds.specs.declared.round_table.view.Standing.{Standing}
use Rattle.spindle_rounds.specs.declared.round_table.view.Standing.TheVariants.{Away, Inside}
use Rattle.spindle_rounds.specs.declared.round_table.view.Standing.TheVariants.{Waiting, Closing}
use Rattle.spindle_rounds.specs.declared.round_table.view.Kind.{Kind}
use Rattle.spindle_rounds.specs.declared.round_table.view.Kind.TheVariants as kind
use Rattle.spindle_rounds.specs.declared.round_table.view.Known.{Known}
use Rattle.spindle_rounds.specs.declared.round_table.view.View.{View}
use Rattle.spindle_rounds.specs.Words.{barrier_at, published_at, finished_at, stopped_at}
use Rattle.spindle_rounds.specs.Words.{remainder_at, range_at, words_of, high_half}
use Rattle.spindle_rounds.specs.Words.{start_of, end_of}

-- a party's begins, finishes, publishes and stops, each with its round
pub data Deed : Type 0 where
  Began : (round k : ℕ) → Deed
  Ended : (round k : ℕ) → Deed
  Showed : (round n : ℕ) (may_stop : Bool) → Deed
  Stopped : (round k : ℕ) → Deed

-- the end of the number that a party runs, if it runs one
abbrev pub ended_in : ℕ → Option ℕ → List Deed
ended_in r None = []
ended_in r (Some k) = Ended r k ∷ []

-- the stop by a party that runs this number, if it runs one
abbrev pub stopped_by : ℕ → Option ℕ → List Deed
stopped_by r None = []
stopped_by r (Some k) = Stopped r k ∷ []

-- what an event does of these
abbrev pub deed : State → Event → List Deed
deed s (Publish p n) = Showed s.round n false ∷ []
deed s (PublishTry p n) = Showed s.round n true ∷ []
deed s (Begin p k) = Began s.round k ∷ []
deed s (Finish p) = ended_in s.round (party s p).running
deed s (Stop p) = stopped_by s.round (party s p).running
deed s _ = []

-- the deeds of the party p in a run, the newest first
abbrev pub deeds : ℕ → List Event → List Deed
deeds p [] = []
deeds p (e ∷ es) = (if by e == p then deed (state es) e else []) ++ deeds p es

-- what a step of a trail does of these
abbrev pub deed_of : Kind → List Deed
deed_of (kind.Begin r k) = Began r k ∷ []
deed_of (kind.Finish r k) = Ended r k ∷ []
deed_of (kind.Publish r n b) = Showed r n b ∷ []
deed_of (kind.Stop r k) = Stopped r k ∷ []
deed_of _ = []

-- the deeds of a trail, the newest first
abbrev pub deeds_of : List (Trace Kind) → List Deed
deeds_of [] = []
deeds_of (x ∷ xs) = deed_of x.kind ++ deeds_of xs

-- the party p stands as its seat says
abbrev pub Stands : State → ℕ → Standing → Type 0
Stands s p Away = ((party s p).status ≡ Out) × (s.closer ≢ Some p)
Stands s p (Inside q) = ((party s p).status ≡ In) × (s.round ≡ q)
Stands s p (Waiting q quiet) = (((party s p).status ≡ Arrived) × (s.round ≡ q) × (s.closer ≢ Some p)
    × (quiet ≡ true → (p ≡ 0) × (s.published ≡ None)))
    ⊎ (((party s p).status ≡ In) × (s.round ≡ suc q) × (p ≡ 0 → s.published ≡ None)
    × ((now s).seen p ≡ false))
Stands s p (Closing q member cleared at) = (s.closer ≡ Some p) × (s.round ≡ q)
    × (cleared ≡ true → s.published ≡ None)
    × ((party s p).status ≡ (if member then Arrived else Out))
    × ((n : ℕ) → at ≡ Some n → word s ≡ n)

-- the range that the number k starts in, for n jobs on t threads, t being the remainder
abbrev pub home_of : ℕ → ℕ → ℕ → ℕ
home_of t n k = if nat_lt (k + n % t) n then k / (n / t) else t

-- the number i is in the list
abbrev pub IsListed : ℕ → List ℕ → Type 0
IsListed i [] = ⊥
IsListed i (x ∷ xs) = (x ≡ i) ⊎ IsListed i xs

-- no number of the i-th range is free, or the round was stopped
abbrev pub IsEmptied : ℕ → ℕ → State → ℕ → Type 0
IsEmptied t n s i = ((k : ℕ) → Free s k → home_of t n k ≡ i → ⊥) ⊎ ((now s).stopped ≡ true)

-- what a seat inside the round knows is so
pub record Knows (t : ℕ) (s : State) (p : ℕ) (k : Known) : Type 0 where
  pub number : (n : ℕ) → k.number ≡ Some n → (s.published ≡ Some n)
      × ((now s).stoppable ≡ k.may_stop)
  pub unpublished : k.unpublished ≡ true → (p ≡ 0) × (s.published ≡ None)
  pub seen : (now s).seen p ≡ k.seen_stop
  pub emptied : (n i : ℕ) → k.number ≡ Some n → IsListed i k.emptied → IsEmptied t n s i
  pub unread : k.number ≡ None → k.emptied ≡ []

-- the numbers taken are those from `from` up to `to`, the end not included
abbrev pub IsShare : (ℕ → Bool) → ℕ → ℕ → Type 0
IsShare taken from to = (k : ℕ) → ((taken k ≡ true) → (from ≤ k) × (k < to))
    × ((from ≤ k) × (k < to) → taken k ≡ true)

-- the seat of the party p shows it
pub record Shows {N : Type 0} (s : State) (p : ℕ) (v : View N) : Type 0 where
  pub stands : Stands s p v.standing
  pub leads : (v.leader ≡ true → p ≡ 0) × (v.leader ≡ false → p ≢ 0)
  pub claim : (party s p).running ≡ v.claim
  pub share : IsShare (party s p).taken v.from v.to
  pub inside : (q : ℕ) → v.standing ≡ Inside q → Knows v.threads s p v.known

-- the barrier word
abbrev pub barrier_in : List ℕ → ℕ
barrier_in ws = slice_index ws barrier_at

-- the number published, as the words show it
abbrev pub published_in : List ℕ → ℕ
published_in ws = slice_index ws published_at

-- how many jobs have finished
abbrev pub finished_in : List ℕ → ℕ
finished_in ws = slice_index ws finished_at

-- whether the round was stopped
abbrev pub stopped_in : List ℕ → ℕ
stopped_in ws = slice_index ws stopped_at

-- the remainder
abbrev pub remainder_in : List ℕ → ℕ
remainder_in ws = slice_index ws remainder_at

-- the range of the thread i
abbrev pub range_in : List ℕ → ℕ → ℕ
range_in ws i = slice_index ws (range_at i)

-- the number k stands in a range
abbrev pub IsWithin : ℕ → ℕ → Type 0
IsWithin range k = (start_of range ≤ k) × (k < end_of range)

-- the number k stands in the range of the thread i
abbrev pub InRange : List ℕ → ℕ → ℕ → Type 0
InRange ws i k = IsWithin (range_in ws i) k

-- the number k stands in the remainder
abbrev pub InRemainder : List ℕ → ℕ → ℕ → Type 0
InRemainder ws n k = (n ≤ k + remainder_in ws) × (k < n)

-- the number k stands in a range or in the remainder
abbrev pub IsLeft : ℕ → List ℕ → ℕ → ℕ → Type 0
IsLeft t ws n k = ((i : ℕ) × (i < t) × InRange ws i k) ⊎ InRemainder ws n k

-- while n is published, ranges and remainder stand for the free numbers,
-- each once, and no range ends before its start
pub record Counters (t : ℕ) (s : State) (ws : List ℕ) (n : ℕ) : Type 0 where
  pub free : (k : ℕ) → Free s k → IsLeft t ws n k
  pub ranges : (i k : ℕ) → i < t → InRange ws i k → Free s k
  pub remainder : (k : ℕ) → InRemainder ws n k → Free s k
  pub few : remainder_in ws ≤ n % t
  pub home : (now s).stopped ≡ false → (i k : ℕ) → i < t → InRange ws i k → home_of t n k ≡ i
  pub apart : (i j k : ℕ) → i < t → j < t → InRange ws i k → InRange ws j k → i ≡ j
  pub remainder_apart : (i k : ℕ) → i < t → InRange ws i k → InRemainder ws n k → ⊥
  pub ordered : (i : ℕ) → i < t → start_of (range_in ws i) ≤ end_of (range_in ws i)

-- the published word: 0, the number, or the number and a bit where the round may stop
abbrev pub number_of : Option ℕ → Bool → ℕ
number_of None b = 0
number_of (Some n) b = if b then n + high_half else n

-- the words show the state
pub record Words (t : ℕ) (s : State) (ws : List ℕ) : Type 0 where
  pub wide : length ws ≡ words_of t
  pub barrier : barrier_in ws ≡ word s
  pub published : published_in ws ≡ number_of s.published (now s).stoppable
  pub finished : s.published ≢ None → finished_in ws ≡ length (now s).finished
  pub stopped : s.published ≢ None → ((now s).stopped ≡ true → stopped_in ws ≡ 1)
      × ((now s).stopped ≡ false → stopped_in ws ≡ 0)
  pub counters : (n : ℕ) → s.published ≡ Some n → Counters t s ws n
  pub barren : t ≡ 0 → s.published ≡ None
