-- What contracts see of a thread's seat at the ledger.
use Rattle.std.specs.Prelude.{◌≡◌}
use Rattle.spindle_parts.specs.LedgerSeats.{IsSameSeat}
use Rattle.spindle_parts.specs.declared.requests.plays.Account.{Account}
use Rattle.spindle_rounds.specs.declared.threads.signals.Signals.{Signals}

-- what it knows, with the trail of its own steps
abbrev pub account_of : Signals → Account
account_of signals = signals.seat.me.0

-- the same seat at the same ledger
abbrev pub IsSameThread : (old new : Signals) → Type 0
IsSameThread old new = (new.ledger ≡ old.ledger) × (new.child_slots ≡ old.child_slots)
    × IsSameSeat old.seat new.seat
