-- All pieces so far ran.
use Rattle.std.specs.Prelude.{take}
use Rattle.std.specs.List.{All}
use Rattle.spindle.specs.Attempts.{HasRun}
use Rattle.spindle.proofs.lock.attempts.all_ran.Given as goal

abbrev pub invariant-loop-attempt : goal.invariant-loop-attempt
invariant-loop-attempt g l = All HasRun (take l.attempt-index l.attempts)
