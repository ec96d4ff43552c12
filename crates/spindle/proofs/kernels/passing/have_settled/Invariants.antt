-- All have settled where the strips so far and the others have.
use Rattle.std.proofs.Common.{◌≡◌, ◌&&◌, drop}
use Rattle.spindle.specs.Passes.{all_settled}
use Rattle.spindle.proofs.kernels.passing.have_settled.Given as goal

abbrev pub invariant-loop-strip : goal.invariant-loop-strip
invariant-loop-strip g l = all_settled l.strips ≡ l.settled && all_settled (drop l.strip-index l.strips)
