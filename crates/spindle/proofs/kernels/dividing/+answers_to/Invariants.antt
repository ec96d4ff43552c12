-- The levels below.
use Rattle.spindle.proofs.kernels.dividing.+answers_to.Given as goal

abbrev pub decreases-answers_to : goal.decreases-answers_to
decreases-answers_to g l = l.levels
