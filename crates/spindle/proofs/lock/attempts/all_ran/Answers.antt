-- One piece more ran, and at the end there are no others.
use Rattle.std.proofs.Common.{◌≡◌, ◌<◌, ◌≤◌, length, true, slice_index_or, rules, subst, sym}
use Rattle.std.proofs.lemmas.List.{take_all}
use Rattle.std.proofs.lemmas.List.Elements.{All-more}
use Rattle.std.specs.List.{All}
use Rattle.spindle.specs.Attempts.{HasRun}
use Rattle.spindle.proofs.lock.attempts.all_ran.Goals as goal

pub loop-attempt-preserved : goal.loop-attempt-preserved
loop-attempt-preserved g c = let all = c.args.attempts.now in let attempt = c.attempt-item.result in let at = c.loop-attempt.attempt-index in
    let inside : at < length all = search rules in let there : slice_index_or all at attempt ≡ attempt = search rules in
    let ran : attempt.ran ≡ true = search rules in
    All-more HasRun all at attempt inside c.loop-attempt.invariant (subst HasRun (sym there) ran)

pub returns : goal.returns
returns g c = λ _. let all = c.args.attempts.now in let at = c.loop-attempt.attempt-index in let past : length all ≤ at = search rules in
    subst (All HasRun) (take_all at all past) c.loop-attempt.invariant
