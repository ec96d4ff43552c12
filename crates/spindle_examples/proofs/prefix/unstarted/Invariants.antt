-- The runs so far.
use Rattle.std.proofs.Common.{◌≡◌, None, map, take}
use Rattle.spindle_examples.specs.Prefix.{asked_of}
use Rattle.spindle_examples.proofs.prefix.unstarted.Given as goal

abbrev pub invariant-loop-run : goal.invariant-loop-run
invariant-loop-run l = l.asked.items ≡ map (asked_of None) (take l.run-index l.runs)
