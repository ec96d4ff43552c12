-- What a nested lock keeps: seats for its helpers, which are those of parties that never came.
use Rattle.std.specs.Prelude.{◌≡◌, false}
use Rattle.spindle_parts.specs.ThreadNumbers.{outsider_view}
use Rattle.spindle_parts.specs.LedgerSteps.{blank}
use Rattle.spindle_rounds.specs.declared.threads.seats.SpareSeats.{SpareSeats}
use Rattle.spindle_rounds.specs.declared.threads.tables.Tables.{Tables}
use Rattle.spindle_rounds.specs.RoundSteps.{outsider}

-- these spare seats are seats at these tables, as a helper needs them:
-- no member of the barrier, no number, no request to answer for
pub record AreSpareSeatsAt {T S N : Type 0} (tables : Tables T S N)
    (spare : SpareSeats T S N) : Type 0 where
  pub round : spare.round.table_id ≡ tables.round.init.table.shared.table_id
  pub outside : spare.round.view ≡ outsider tables.round.init.threads false
  pub numbers : spare.numbers.table_id ≡ tables.numbers.table
  pub unnumbered : spare.numbers.view ≡ outsider_view
  pub ledger : spare.ledger.table_id ≡ tables.ledger.table.shared.table_id
  pub blank : spare.ledger.view ≡ blank
