-- What answers what became of the branches answers them.
use Rattle.spindle.proofs.Divisions.{answer_back}
use Rattle.spindle.proofs.kernels.dividing.answered.Goals as goal

pub returns-clause-answers : goal.returns-clause-answers
returns-clause-answers g c =
    let solves = g.K.Division.solves c.args.kernel.now in
    let splits = g.K.Division.splits c.args.kernel.now in
    answer_back solves splits c.args.branches.items c.in_ok-branches.branches.items c.in_ok-answers_of.field-0.items c.in_ok-branches.ensures.advanced c.in_ok-answers_of.ensures
