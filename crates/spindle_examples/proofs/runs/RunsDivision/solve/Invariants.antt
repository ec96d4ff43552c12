-- The sums so far.
use Rattle.std.proofs.Common.{take}
use Rattle.std.specs.Option.{IfSome}
use Rattle.spindle_examples.specs.Runs.{AreSums}
use Rattle.spindle_examples.proofs.runs.RunsDivision.solve.Given as goal

abbrev pub invariant-loop-item : goal.invariant-loop-item
invariant-loop-item l = IfSome l.sums (AreSums (take l.item-index l.item-items))
