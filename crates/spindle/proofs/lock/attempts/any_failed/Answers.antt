-- The piece at hand ran and has failed.
use Rattle.std.proofs.Common.{◌≡◌, ◌<◌, length, true, slice_index_or, rules, subst}
use Rattle.std.specs.List.{Any}
use Rattle.spindle.proofs.lock.attempts.any_failed.Goals as goal

pub returns-then-has_failure : goal.returns-then-has_failure
returns-then-has_failure g c = λ _. let all = c.args.attempts.now in let attempt = c.attempt-item.result in let at = c.loop-attempt.attempt-index in
    let inside : at < length all = search rules in let there : slice_index_or all at attempt ≡ attempt = search rules in
    let ran : attempt.ran ≡ true = search rules in
    let told = subst (Any g.J.Job.fails) c.as_slice.ensures.value (c.has_failure.ensures c.if-has_failure.true) in
    (at, attempt, inside, there, (ran, told))
