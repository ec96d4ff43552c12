-- One more list goes to the end, or the first failure is the answer.
use Rattle.std.proofs.Common.{rules, ◌≡◌, ◌++◌, ◌∷◌, ap, sym, ◌∙◌}
use Rattle.std.specs.Vec.Iter.{into_iter_items}
use Rattle.spindle_parts.proofs.GatheredLists.{gathered_snoc, gathered_failed, yielded_items}
use Rattle.spindle_parts.proofs.lists.results.gathered.Goals as goal

pub loop-answer-preserved : goal.loop-answer-preserved
loop-answer-preserved g c =
    rw c.in-Ok.is (gathered_snoc c.loop-answer.yielded c.loop-answer.all c.append.new.self c.in-Ok.list c.loop-answer.invariant (search rules))

pub returns-in-Err-clause-answers : goal.returns-in-Err-clause-answers
returns-in-Err-clause-answers g c =
    let before = c.loop-answer.yielded in
    let next = rw (c.in-Some.is) at c.next.ensures.steps in
    let later = into_iter_items c.next.new.self in
    let whole : c.args.answers.items ≡ before ++ c.in-Some.answer ∷ later =
    sym c.into_iter-answer-iterator.ensures.into_iter_gives.0 ∙ yielded_items before _ _ c.loop-answer.yielded_by ∙ ap (λ l. before ++ l) next.0 in
    rw (whole, c.in-Err.is) (gathered_failed before later c.loop-answer.all c.in-Err.failure c.loop-answer.invariant)
