-- The answers so far.
use Rattle.std.specs.List.{AllZip}
use Rattle.spindle.specs.Divisions.{Allows}
use Rattle.spindle.proofs.kernels.dividing.answers_of.Given as goal

abbrev pub invariant-loop-branch : goal.invariant-loop-branch
invariant-loop-branch g l = AllZip (Allows (g.K.Division.solves l.kernel) (g.K.Division.splits l.kernel)) l.yielded l.answers.items
