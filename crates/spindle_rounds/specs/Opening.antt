-- What the opening of a lock gives its leader.
use Rattle.std.specs.Prelude.{◌≡◌, true, []}
use Rattle.spindle_parts.specs.ThreadNumbers.{IsSeatOf}
use Rattle.spindle_rounds.specs.declared.threads.seats.Seats.{Seats}
use Rattle.spindle_rounds.specs.declared.threads.tables.Tables.{Tables}
use Rattle.spindle_parts.specs.LedgerSeats as ledger
use Rattle.spindle_parts.specs.LedgerSteps.{blank}
use Rattle.spindle_rounds.specs.RoundSteps.{outsider}
use Rattle.spindle_rounds.specs.Seating.{IsSeatAt}

-- the leader's seats at the tables of its lock,
-- from which the helpers' are split: it is in no round yet
pub record AreSeatsAt {T S N : Type 0} (tables : Tables T S N) (seats : Seats T S N) : Type 0 where
  pub round : IsSeatAt tables.round.init seats.round
  pub outside : seats.round.me ≡ (outsider tables.round.init.threads true, [])
  pub numbers : IsSeatOf tables.numbers seats.numbers
  pub ledger : ledger.IsSeatOf tables.ledger seats.ledger
  pub blank : seats.ledger.me ≡ (blank, [])
