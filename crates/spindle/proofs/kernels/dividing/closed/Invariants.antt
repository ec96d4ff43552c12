-- The branches so far.
use Rattle.std.proofs.Common.{◌≡◌, map}
use Rattle.spindle.specs.Divisions.{joined_at}
use Rattle.spindle.proofs.kernels.dividing.closed.Given as goal

abbrev pub invariant-loop-first : goal.invariant-loop-first
invariant-loop-first g l = l.branches.items ≡ map joined_at l.yielded
