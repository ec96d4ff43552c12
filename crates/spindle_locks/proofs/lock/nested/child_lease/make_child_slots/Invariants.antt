-- There is room for the slots that are left.
use Rattle.std.proofs.Common.{◌≡◌, vec_len, vec_capacity, ◌≤◌}
use Rattle.spindle_locks.proofs.lock.nested.child_lease.make_child_slots.Given as goal

abbrev pub invariant-loop : goal.invariant-loop
invariant-loop g l = (vec_len l.child_slots ≡ l.counter) × (l.threads ≤ vec_capacity l.child_slots)
