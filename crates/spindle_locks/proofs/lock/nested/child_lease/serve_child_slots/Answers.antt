-- So it is after each slot.
use Rattle.spindle_rounds.proofs.Leaving.{same_thread_first, same_thread_on}
use Rattle.spindle_locks.proofs.lock.nested.child_lease.serve_child_slots.Goals as goal

pub loop-number-init : goal.loop-number-init
loop-number-init g c = same_thread_first c.args.signals.now

pub loop-number-preserved : goal.loop-number-preserved
loop-number-preserved g c = same_thread_on c.args.signals.now c.loop-number.signals c.serve_slot.new.signals c.loop-number.invariant c.serve_slot.ensures
