-- What answers the parts answers the branches.
use Rattle.std.proofs.Common.{Option, Vec, Global, subst, sym}
use Rattle.std.specs.List.{AllZip}
use Rattle.std.proofs.lemmas.Result.{IfOk-weaker}
use Rattle.spindle.specs.Divisions.{Allows, LeadsTo}
use Rattle.spindle.proofs.Divisions.{answer_back, level_closes}
use Rattle.spindle.proofs.kernels.dividing.+answers_to.Goals as goal

pub returns-clause-answers : goal.returns-clause-answers
returns-clause-answers g t c =
    let solves = g.K.Division.solves c.args.kernel.now in
    let splits = g.K.Division.splits c.args.kernel.now in
    let branches = c.args.branches.items in
    let parts = c.in_ok-parts.parts.items in
    let answers = c.in_ok-answers.answers.items in
    let below : AllZip (Allows solves splits) parts answers =
    answer_back solves splits parts c.in_ok-parts-2.parts.items answers c.in_ok-parts-2.ensures.advanced c.in_ok-answers.ensures.answers in
    let closes = level_closes solves splits branches answers (subst (λ l. AllZip (Allows solves splits) l answers) c.in_ok-parts.ensures below) in
    let closed = subst (AllZip (LeadsTo solves splits) branches) (sym c.in_ok-branches.ensures) closes in
    IfOk-weaker _ (λ (new : Vec (Option g.row.K-Answer.Denot) Global). AllZip (Allows solves splits) c.in_ok-branches.branches.items new.items) _
    (λ new all. answer_back solves splits branches c.in_ok-branches.branches.items new.items closed all)
    c.answered-2.ensures.answers
