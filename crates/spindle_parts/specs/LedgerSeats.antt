-- What a clause says of a requests table and of its seats.
use Rattle.std.specs.Prelude.{◌≡◌, ℕ}
use Rattle.atomic_table.specs.declared.shared.Seat.{Seat}
use Rattle.spindle_parts.specs.declared.requests.plays.Account.{Account}
use Rattle.spindle_parts.specs.declared.requests.Requests.{Requests}

-- how many child slots the table has
abbrev pub child_slot_count : Requests → ℕ
child_slot_count r = r.table.shared.key

-- it is a seat of this table
abbrev pub IsSeatOf : Requests → Seat (Unit {0}) Account → Type 0
IsSeatOf r seat = seat.table_id ≡ r.table.shared.table_id

-- it is the same seat, at the same table, and holds what it held
abbrev pub IsSameSeat : Seat (Unit {0}) Account → Seat (Unit {0}) Account → Type 0
IsSameSeat old new = (new.table_id ≡ old.table_id) × (new.id ≡ old.id) × (new.me.1 ≡ old.me.1)
