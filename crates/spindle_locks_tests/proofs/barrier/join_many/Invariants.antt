-- The seat that all others come from stays as it was.
use Rattle.std.proofs.Common.{◌≡◌}
use Rattle.spindle_locks_tests.proofs.barrier.join_many.Given as goal

abbrev pub invariant-loop : goal.invariant-loop
invariant-loop g l = (l.seat.table_id ≡ l.initial.seat.table_id) × (l.seat.me ≡ l.initial.seat.me)
