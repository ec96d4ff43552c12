-- The list so far is that of the answers so far.
use Rattle.std.proofs.Common.{Ok}
use Rattle.spindle_parts.specs.Gathered.{IsGathered}
use Rattle.spindle_parts.proofs.lists.results.gathered.Given as goal

abbrev pub invariant-loop-answer : goal.invariant-loop-answer
invariant-loop-answer g l = IsGathered {E = g.row.E.Denot} l.yielded (Ok l.all)
