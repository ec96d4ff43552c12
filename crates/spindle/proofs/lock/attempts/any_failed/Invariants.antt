-- Nothing is kept.
use Rattle.spindle.proofs.lock.attempts.any_failed.Given as goal

abbrev pub invariant-loop-attempt : goal.invariant-loop-attempt
invariant-loop-attempt g l = Unit {0}
