-- Where a thread of a lock stands between two of its calls.
use Rattle.std.specs.Prelude.{◌≡◌, ◌<◌, ℕ, Bool, Option, Some, None, false}
use Rattle.atomic_table.specs.declared.shared.Seat.{Seat}
use Rattle.spindle_rounds.specs.declared.threads.tables.Tables.{Tables}
use Rattle.spindle_rounds.specs.declared.threads.seats.Seats.{Seats}
use Rattle.spindle_parts.specs.LedgerSeats as ledger
use Rattle.spindle_parts.specs.ThreadNumbers as numbers
use Rattle.spindle_parts.specs.declared.numbers.plays.Holding.TheVariants.{Nothing}
use Rattle.spindle_rounds.specs.declared.barrier.Barrier.{Barrier}
use Rattle.spindle_rounds.specs.declared.round.publishing.PublishedRound.{PublishedRound}
use Rattle.spindle_rounds.specs.declared.round_table.view.View.{View}
use Rattle.spindle_rounds.specs.declared.round_table.view.Standing.TheVariants.{Away}
use Rattle.spindle_rounds.specs.Holding.{IsHeld}
use Rattle.spindle_rounds.specs.RoundShown.{Showed}
use Rattle.spindle_rounds.specs.RoundSteps.{learning}
use Rattle.spindle_rounds.specs.RoundViews.{published_of}
use Rattle.spindle_rounds.specs.Seating.{IsSeatAt, IsSameSeat}
use Rattle.spindle_rounds.specs.SlotSteps.{IsDeed}
use Rattle.spindle_rounds.specs.Working.{IsIdle}

-- what the party at a barrier knows, with the trail of its own steps
abbrev pub party_view : {T S N : Type 0} → Barrier T S N → View N
party_view b = b.seat.me.0

-- a view of as many threads as the tables are for
abbrev pub IsSized : {T S N : Type 0} → Tables T S N → View N → Type 0
IsSized tables v = v.threads ≡ tables.round.init.threads

-- the party stands at the barrier of these tables
abbrev pub IsAt : {T S N : Type 0} → Tables T S N → Barrier T S N → Type 0
IsAt tables b = IsHeld b × IsSeatAt tables.round.init b.seat × IsSized tables (party_view b)

-- the seat of a party that is no member of the barrier, has nothing to finish, and may join
abbrev pub IsOut : {T S N : Type 0} → Tables T S N → Seat S (View N) → Type 0
IsOut tables seat = IsSeatAt tables.round.init seat × IsSized tables seat.me.0
    × (seat.me.0.standing ≡ Away) × IsIdle seat.me.0

-- it has published n jobs in the round q, and stored no word for another since
abbrev pub LastPublished : {N : Type 0} → (q n : ℕ) → Bool → View N → Type 0
LastPublished q n may_stop v = (v.laid ≡ Some q)
    × IsDeed (Showed q n may_stop) (published_of v.trail)

-- one load of the published word: there is no round exactly where it was 0
abbrev pub LookedForPublished : {N : Type 0} → Option PublishedRound → (old new : View N) → Type 0
LookedForPublished None old new = new ≡ learning 0 old
LookedForPublished (Some published) old new = (word : ℕ) × (0 < word) × (new ≡ learning word old)

-- the seats of a helper before its life in the lock and after it: no member, no number, no credit
pub record AreOut {T S N : Type 0} (tables : Tables T S N) (seats : Seats T S N) : Type 0 where
  pub round : IsOut tables seats.round
  pub helper : seats.round.me.0.leader ≡ false
  pub numbers : numbers.IsSeatOf tables.numbers seats.numbers
  pub no_number : seats.numbers.me.0.holding ≡ Nothing
  pub ledger : ledger.IsSeatOf tables.ledger seats.ledger
  pub no_credit : seats.ledger.me.0.credit ≡ 0

-- the same three seats
pub record AreSameSeats {T S N : Type 0} (old new : Seats T S N) : Type 0 where
  pub round : IsSameSeat old.round new.round
  pub numbers : numbers.IsSameSeat old.numbers new.numbers
  pub ledger : ledger.IsSameSeat old.ledger new.ledger
