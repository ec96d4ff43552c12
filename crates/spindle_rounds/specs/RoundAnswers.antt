-- What each answer of a round table's calls says of the values that were found in the call.
use Rattle.std.specs.Prelude.{◌≡◌, ◌≢◌, ◌⊎◌, ℕ, zero, suc, ◌+◌, ◌-◌, ◌%◌, ◌<◌, ◌≤◌, Bool}
use Rattle.std.specs.Prelude.{if◌then◌else◌, List, [], ◌∷◌, length, slice_index, Option, Some}
use Rattle.std.specs.Prelude.{None}
use Rattle.atomic_table.specs.Table.{Me, carried_after}
use Rattle.atomic_table.specs.declared.shared.Seat.{Seat}
use Rattle.spindle_rounds.specs.declared.round_table.view.View.{View}
use Rattle.spindle_rounds.specs.declared.barrier.JoinRefused.{JoinRefused}
use Rattle.spindle_rounds.specs.declared.barrier.JoinRefused.TheVariants as refused
use Rattle.spindle_rounds.specs.declared.barrier.steps.JoinStep.{JoinStep}
use Rattle.spindle_rounds.specs.declared.barrier.steps.JoinStep.TheVariants.{Joined, Full, Closing}
use Rattle.spindle_rounds.specs.declared.barrier.steps.JoinStep.TheVariants.{Again}
use Rattle.spindle_rounds.specs.declared.barrier.steps.Arrival.{Arrival}
use Rattle.spindle_rounds.specs.declared.barrier.steps.Arrival.TheVariants.{Arrived, Closer}
use Rattle.spindle_rounds.specs.declared.barrier.steps.Look.{Look}
use Rattle.spindle_rounds.specs.declared.barrier.steps.Look.TheVariants as look
use Rattle.spindle_rounds.specs.declared.barrier.steps.LeaveStep.{LeaveStep}
use Rattle.spindle_rounds.specs.declared.barrier.steps.LeaveStep.TheVariants as leave
use Rattle.spindle_rounds.specs.declared.barrier.steps.ExitStep.{ExitStep}
use Rattle.spindle_rounds.specs.declared.barrier.steps.ExitStep.TheVariants as exit
use Rattle.spindle_rounds.specs.declared.round.claim.Claim.{Claim}
use Rattle.spindle_rounds.specs.declared.round.claim.Steal.{Steal}
use Rattle.spindle_rounds.specs.declared.round.claim.Steal.TheVariants as steal
use Rattle.spindle_rounds.specs.declared.round.stopping.PutBack.{PutBack}
use Rattle.spindle_rounds.specs.declared.round.stopping.PutBack.TheVariants as back
use Rattle.spindle_rounds.specs.declared.round.claim.Claim.TheVariants as claim
use Rattle.spindle_rounds.specs.declared.round_table.view.Kind.{Kind}
use Rattle.spindle_rounds.specs.declared.round_table.view.Kind.TheVariants as kind
use Rattle.spindle_parts.specs.declared.trail.Trace.{Trace}
use Rattle.spindle_parts.specs.Trail.{trace}
use Rattle.spindle_rounds.specs.Seating.{IsSameSeat}
use Rattle.spindle_rounds.specs.Spans.{Span}
use Rattle.spindle_rounds.specs.RoundSlots.{Discipline}
use Rattle.spindle_rounds.specs.RoundRule.{fill_value, IsFilled}
use Rattle.spindle_rounds.specs.Words.{barrier_at, remainder_at, range_at, filled_at, high_half}
use Rattle.spindle_rounds.specs.Words.{most_parties, count_of, most_of, sense_of, start_of, end_of}
use Rattle.spindle_rounds.specs.Words.{length_of, range_word}
use Rattle.spindle_rounds.specs.RoundSteps.{loading, missing, joining, arriving, looking, leaving}
use Rattle.spindle_rounds.specs.RoundSteps.{exiting, closer_reading, turned_word, ending, searching}
use Rattle.spindle_rounds.specs.RoundSteps.{reading_remainder, recalling, claiming, stolen_from}
use Rattle.spindle_rounds.specs.RoundSteps.{stealing, claiming_remainder, sharing, finishing}
use Rattle.spindle_rounds.specs.RoundSteps.{seeing, putting_back}

-- the words that the first j stores of `fill` leave, for n jobs on t threads, the newest first
abbrev pub stored_for : ℕ → ℕ → ℕ → List (ℕ × ℕ) → List (ℕ × ℕ)
stored_for t n zero l = l
stored_for t n (suc j) l = (filled_at j, fill_value t n j) ∷ stored_for t n j l

-- and the trail after them
abbrev pub trail_for : ℕ → ℕ → ℕ → List (Trace Kind) → List (Trace Kind)
trail_for t n zero l = l
trail_for t n (suc j) l = trace (filled_at j) kind.Fill (fill_value t n j) (fill_value t n j)
    ∷ trail_for t n j l

-- the view after them
abbrev pub filled_view : {N : Type 0} → ℕ → ℕ → ℕ → View N → View N
filled_view t n j v =
    record v {
      known = record v.known { stored = stored_for t n j v.known.stored };
      laid = None;
      trail = trail_for t n j v.trail;
    }

-- `fill` makes these stores and no other step: finished, stopped,
-- the remainder, and a range for each thread; so the round is filled
abbrev pub FilledBy : {N : Type 0} → ℕ → ℕ → View N → View N → Type 0
FilledBy t n v w = (w ≡ filled_view t n (3 + t) v) × IsFilled t n w.known.stored

-- the ranges are read in order, the first being the i-th
abbrev pub searching_all : {N : Type 0} → ℕ → List ℕ → View N → View N
searching_all i [] v = v
searching_all i (x ∷ xs) v = searching_all (i + 1) xs (searching i x v)

-- the longest range that was found, the first among equals
abbrev pub IsLongest : List ℕ → ℕ → Type 0
IsLongest found i = (i < length found) × (0 < length_of (slice_index found i)) ×
    ((j : ℕ) → j < length found → length_of (slice_index found j) ≤ length_of (slice_index found i))
    × ((j : ℕ) → j < i → length_of (slice_index found j) < length_of (slice_index found i))

-- of the ranges that were found, which is the longest and its value, where one isn't empty
abbrev pub IsBest : List ℕ → ℕ → ℕ → Type 0
IsBest found i range = (0 < length_of range → IsLongest found i × (slice_index found i ≡ range)) ×
    (length_of range ≡ 0 → (j : ℕ) → j < length found → length_of (slice_index found j) ≡ 0)

-- with this barrier word a party may join:
-- the members aren't at their most, and if there are any one of them is in
abbrev pub LetsJoin : ℕ → Type 0
LetsJoin n = (most_of n ≢ most_parties) × ((0 < count_of n) ⊎ (most_of n ≡ 0))

module _ {S N : Type 0} where
  -- all ranges are read, and the longest is known
  abbrev pub ReadAll : ℕ → ℕ → ℕ → Me S (View N) → Me S (View N) → Type 0
  ReadAll t i range m w = (found : List ℕ) × (length found ≡ t)
      × (w ≡ (searching_all 0 found m.0, m.1)) × IsBest found i range

  -- a join: the members were at their most; else none of them was in;
  -- else the exchange found what the load before it found, or another value
  abbrev pub JoinedBy : JoinStep → Me S (View N) → Me S (View N) → Type 0
  JoinedBy Full m w = (n : ℕ) × (w ≡ (loading barrier_at n m.0, m.1)) × (most_of n ≡ most_parties)
  JoinedBy Closing m w = (n : ℕ) × (w ≡ (loading barrier_at n m.0, m.1))
      × (most_of n ≢ most_parties) × (count_of n ≡ 0) × (0 < most_of n)
  JoinedBy (Joined sense) m w = (n q : ℕ) × (seen : Bool)
      × (w ≡ (joining q seen n (loading barrier_at n m.0), m.1)) × (q % 2 ≡ sense)
      × (sense_of n ≡ sense)
      × LetsJoin n
  JoinedBy Again m w = (n found : ℕ)
      × (w ≡ (missing barrier_at found (loading barrier_at n m.0), m.1)) × (found ≢ n) × LetsJoin n

  -- a join that was refused, of whose seat the answer speaks
  abbrev pub JoinRefusedBy : Seat S (View N) → JoinRefused (Seat S (View N)) → Type 0
  JoinRefusedBy s (refused.Full t) = IsSameSeat s t × JoinedBy Full s.me t.me
  JoinRefusedBy s (refused.Closing t) = IsSameSeat s t × JoinedBy Closing s.me t.me
  JoinRefusedBy s (refused.Again t) = IsSameSeat s t × JoinedBy Again s.me t.me

  -- an arrival: who found count 1 is the closer
  abbrev pub ArrivedBy : Arrival → Me S (View N) → Me S (View N) → Type 0
  ArrivedBy Arrived m w = (found : ℕ) × (w ≡ (arriving found m.0, m.1)) × (count_of found ≢ 1)
  ArrivedBy Closer m w = (found : ℕ) × (w ≡ (arriving found m.0, m.1)) × (count_of found ≡ 1)

  -- what a party with that sense sees: its round has ended;
  -- else some member is in; else the round is closing
  abbrev pub LookedBy : ℕ → Look → Me S (View N) → Me S (View N) → Type 0
  LookedBy sense look.Ended m w = (n : ℕ) × (w ≡ (looking n m.0, m.1)) × (n < high_half)
      × (sense_of n ≡ sense)
  LookedBy sense look.Running m w = (n : ℕ) × (w ≡ (looking n m.0, m.1)) × (n < high_half)
      × (sense_of n ≢ sense) × (0 < count_of n)
  LookedBy sense look.Closing m w = (n : ℕ) × (w ≡ (looking n m.0, m.1)) × (n < high_half)
      × (sense_of n ≢ sense) × (count_of n ≡ 0)

  -- a leave looks first, and then exchanges
  abbrev pub LeftBy : ℕ → LeaveStep → Me S (View N) → Me S (View N) → Type 0
  LeftBy sense leave.Left m w = (n : ℕ) × (w ≡ (leaving n (looking n m.0), m.1)) × (n < high_half)
      × (sense_of n ≢ sense) × (0 < count_of n)
  LeftBy sense leave.Ended m w = LookedBy sense look.Ended m w
  LeftBy sense leave.Closing m w = LookedBy sense look.Closing m w
  LeftBy sense leave.Again m w = (n found : ℕ)
      × (w ≡ (missing barrier_at found (looking n m.0), m.1)) × (n < high_half)
      × (sense_of n ≢ sense) ×
      (0 < count_of n) × (found ≢ n)

  -- an exit: who found count 1 beside other members is the closer
  abbrev pub ExitedBy : ExitStep → Me S (View N) → Me S (View N) → Type 0
  ExitedBy exit.Gone m w = (n : ℕ) × (w ≡ (exiting n (loading barrier_at n m.0), m.1))
      × ((count_of n ≢ 1) ⊎ (most_of n ≤ 1))
  ExitedBy exit.Closer m w = (n : ℕ) × (w ≡ (exiting n (loading barrier_at n m.0), m.1))
      × (count_of n ≡ 1) × (1 < most_of n)
  ExitedBy exit.Again m w = (n found : ℕ)
      × (w ≡ (missing barrier_at found (loading barrier_at n m.0), m.1)) × (found ≢ n)

  -- the closer reads the word, and stores the next round's
  abbrev pub EndedBy : Me S (View N) → Me S (View N) → Type 0
  EndedBy m w = (n : ℕ) × (w ≡ (ending (turned_word n) (closer_reading n m.0), m.1))

  -- a claim on the range i: the range is read, and where it isn't empty the exchange is tried
  abbrev pub OwnClaimedBy : Discipline S N → ℕ → Claim → Me S (View N) → Me S (View N) → Type 0
  OwnClaimedBy D i (claim.Job c) m w = (n : ℕ) × (x : Option N)
      × (w.0 ≡ claiming (range_at i) n x (searching i n m.0)) × D.took c m.1 x w.1
      × (c ≡ start_of n)
      × (start_of n < end_of n)
  OwnClaimedBy D i claim.Nothing m w = (n : ℕ) × (w ≡ (searching i n m.0, m.1))
      × (end_of n ≤ start_of n)
  OwnClaimedBy D i claim.Again m w = (n found : ℕ)
      × (w ≡ (missing (range_at i) found (searching i n m.0), m.1)) × (found ≢ n)
      × (start_of n < end_of n)

  -- a steal: all ranges are read, and where one isn't empty the exchange is tried on the longest
  abbrev pub StolenBy : Discipline S N → ℕ → Steal → Me S (View N) → Me S (View N) → Type 0
  StolenBy D t (steal.Job c s) m w = (found : List ℕ) × (i : ℕ) × (x : Option N)
      × (length found ≡ t) × IsLongest found i ×
      (w.0 ≡ stealing (range_at i) (slice_index found i) x (searching_all 0 found m.0))
      × D.took c m.1 x w.1 × (c ≡ stolen_from (slice_index found i)) × (s.from ≡ c + 1)
      × (s.to ≡ end_of (slice_index found i))
  StolenBy D t steal.Nothing m w = (found : List ℕ) × (length found ≡ t)
      × ((i : ℕ) → i < t → end_of (slice_index found i) ≤ start_of (slice_index found i)) ×
      (w ≡ (searching_all 0 found m.0, m.1))
  StolenBy D t steal.Again m w = (found : List ℕ) × (i other : ℕ) × (length found ≡ t)
      × IsLongest found i ×
      (w ≡ (missing (range_at i) other (searching_all 0 found m.0), m.1))
      × (other ≢ slice_index found i)

  -- a claim on the remainder of n jobs: the remainder is read,
  -- and where it isn't 0 the number, and then the exchange is tried
  abbrev pub RemainderClaimedBy : Discipline S N → ℕ → Claim → Me S (View N) → Me S (View N)
      → Type 0
  RemainderClaimedBy D n (claim.Job c) m w = (v : ℕ) × (x : Option N)
      × (w.0 ≡ claiming_remainder n v x (recalling n (reading_remainder v m.0)))
      × D.took c m.1 x w.1 × (c ≡ n - v) × (0 < v)
  RemainderClaimedBy D n claim.Nothing m w = (v : ℕ) × (w ≡ (reading_remainder v m.0, m.1))
      × (v ≡ 0)
  RemainderClaimedBy D n claim.Again m w = (v found : ℕ)
      × (w ≡ (missing remainder_at found (recalling n (reading_remainder v m.0)), m.1))
      × (found ≢ v) ×
      (0 < v)

  -- the share's first number begins, where there is one;
  -- what is left is stored in the word i of the ranges and shares
  abbrev pub SharedBy : Discipline S N → ℕ → Span → Option ℕ → Span → Me S (View N) → Me S (View N)
      → Type 0
  SharedBy D i share (Some k) left m w = (x : Option N)
      × (w.0 ≡ sharing (range_at i) (range_word (k + 1) share.to) x m.0) × D.took k m.1 x w.1 ×
      (k ≡ share.from) × (share.from < share.to) × (left.from ≡ k + 1) × (left.to ≡ share.to)
  SharedBy D i share None left m w = (w ≡ m) × (left ≡ share) × (share.from ≡ share.to)

  -- a finish: one more is counted than were found, and the claim's slot goes back
  abbrev pub FinishedBy : Discipline S N → ℕ → Me S (View N) → Me S (View N) → Type 0
  FinishedBy D found m w = w ≡ (finishing found m.0, carried_after m.1 D.gives)

  -- the word `stopped` says whether the round was stopped
  abbrev pub SeenBy : Bool → Me S (View N) → Me S (View N) → Type 0
  SeenBy stopped m w = w ≡ (seeing (if stopped then 1 else 0) m.0, m.1)

  -- a share goes back into the range i
  abbrev pub PutBy : ℕ → PutBack → Span → Span → Me S (View N) → Me S (View N) → Type 0
  PutBy i back.Put share left m w = (n : ℕ)
      × (w ≡ (putting_back (range_at i) n (searching i n m.0), m.1)) × (end_of n ≤ start_of n)
      × (left.from ≡ share.to) ×
      (left.to ≡ share.to)
  PutBy i back.Occupied share left m w = (n : ℕ) × (w ≡ (searching i n m.0, m.1))
      × (start_of n < end_of n) × (left ≡ share)
  PutBy i back.Again share left m w = (n found : ℕ)
      × (w ≡ (missing (range_at i) found (searching i n m.0), m.1)) × (found ≢ n) × (left ≡ share) ×
      (end_of n ≤ start_of n)
