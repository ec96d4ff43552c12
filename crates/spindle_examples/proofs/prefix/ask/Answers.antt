-- The answers of the runs, one behind the other.
use Rattle.std.proofs.Common.{subst}
use Rattle.std.specs.declared.alloc.AllocError.{AllocError}
use Rattle.spindle.specs.Gathered.{IsGathered}
use Rattle.spindle.proofs.GatheredLists.{gathered_values}
use Rattle.spindle_examples.specs.Prefix.{answer_to}
use Rattle.spindle_examples.proofs.prefix.ask.Goals as goal

pub returns : goal.returns
returns g c =
    let all = subst (λ r. IsGathered c.in_ok-answers.answers.items r) c.in_ok-branch.was c.in_ok-gathered.ensures.answers in
    gathered_values {E = AllocError} answer_to c.args.asked.items c.in_ok-answers.answers.items c.in_ok-branch.field-0 c.in_ok-answers.ensures.answer all
