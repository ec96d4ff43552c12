-- The parts of the branches so far.
use Rattle.std.proofs.Common.{◌≡◌, map}
use Rattle.spindle.specs.Divisions.{first_of, second_of}
use Rattle.spindle.proofs.kernels.dividing.opened.Given as goal

abbrev pub invariant-loop-branch : goal.invariant-loop-branch
invariant-loop-branch g l = (l.parts.items ≡ map first_of l.yielded) × (l.seconds.items ≡ map second_of l.yielded)
