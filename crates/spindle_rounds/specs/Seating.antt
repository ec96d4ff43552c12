-- Which table a seat is of, and which party's it is.
use Rattle.std.specs.Prelude.{◌≡◌, ℕ}
use Rattle.atomic_table.specs.declared.shared.Seat.{Seat}
use Rattle.spindle_rounds.specs.declared.barrier.BarrierInit.{BarrierInit}
use Rattle.spindle_rounds.specs.declared.round_table.view.View.{View}

-- it is a seat of this barrier's table
abbrev pub IsSeatAt : {T S N : Type 0} → BarrierInit T S N → Seat S (View N) → Type 0
IsSeatAt init seat = seat.table_id ≡ init.table.shared.table_id

-- the same seat, at the same table
abbrev pub IsSameSeat : {S N : Type 0} → (old new : Seat S (View N)) → Type 0
IsSameSeat old new = (new.table_id ≡ old.table_id) × (new.id ≡ old.id)

-- two barriers over one table
abbrev pub IsSameTable : {T S N : Type 0} → (one other : BarrierInit T S N) → Type 0
IsSameTable one other = other.table.shared.table_id ≡ one.table.shared.table_id

-- as many slots as its table was opened with
abbrev pub slots_of : {T S N : Type 0} → BarrierInit T S N → ℕ
slots_of init = init.table.shared.table_id.slots

-- its table was opened with so many slots
abbrev pub HasSlots : {T S N : Type 0} → BarrierInit T S N → ℕ → Type 0
HasSlots init slots = slots_of init ≡ slots
