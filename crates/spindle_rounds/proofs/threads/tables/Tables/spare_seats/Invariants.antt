-- So far each spare has the seats of one helper, and the leader's stay its own.
use Rattle.std.proofs.Common.{◌≡◌, ◌+◌, ◌≤◌, vec_len, vec_capacity, All}
use Rattle.spindle_rounds.specs.SpareSeats.{AreSpareSeatsAt}
use Rattle.spindle_rounds.specs.Opening.{AreSeatsAt}
use Rattle.spindle_rounds.proofs.threads.tables.Tables.spare_seats.Given as goal

abbrev pub invariant-loop : goal.invariant-loop
invariant-loop g l = record {
  seats : AreSeatsAt l.fn.self l.seats;
  spare_seats : All (AreSpareSeatsAt l.fn.self) l.spare_seats.items;
  len : vec_len l.spare_seats + 1 ≡ l.counter;
  room : l.end ≤ vec_capacity l.spare_seats;
}
