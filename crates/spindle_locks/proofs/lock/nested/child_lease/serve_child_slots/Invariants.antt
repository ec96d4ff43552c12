-- The helper's seat at the ledger is the same.
use Rattle.spindle_rounds.specs.Accounts.{IsSameThread}
use Rattle.spindle_locks.proofs.lock.nested.child_lease.serve_child_slots.Given as goal

abbrev pub invariant-loop-number : goal.invariant-loop-number
invariant-loop-number g l = IsSameThread l.fn.signals l.signals
