-- The round is over; or the pieces that are left run in another.
use Rattle.std.proofs.Common.{◌≡◌, ◌⊎◌, rules, subst}
use Rattle.std.specs.List.{All, Any}
use Rattle.spindle.specs.Attempts.{AreAttempts, HasFailed, HasRun}
use Rattle.spindle.specs.OneRound.{asked_jobs}
use Rattle.spindle.proofs.AttemptLists.{finished, over}
use Rattle.spindle.proofs.lock.attempts.try_one.Goals as goal

pub returns-then-is_over-clause-attempts : goal.returns-then-is_over-clause-attempts
returns-then-is_over-clause-attempts g c = let Fails = g.J.Job.fails in let cut = c.in_ok-attempts.ensures in
    let jobs : c.if-n_jobs-eq0.asked ≡ asked_jobs c.args.pool.now.threads c.args.n_jobs = search rules in
    let stopped = subst (λ l. All HasRun l ⊎ Any (HasFailed Fails) l) c.as_slice.ensures.value (c.is_over.ensures c.if-is_over.true) in
    subst (λ n. AreAttempts g.J.Job.meets Fails c.args.items n c.in_ok-attempts-2.attempts.items) jobs
    (over g.J.Job.meets Fails c.args.items c.if-n_jobs-eq0.asked c.in_ok-attempts.attempts.items c.in_ok-attempts-2.attempts.items
    cut.whole cut.lengths cut.none c.in_ok-attempts-2.ensures.updated stopped)

pub returns-clause-attempts : goal.returns-clause-attempts
returns-clause-attempts g c = let cut = c.in_ok-attempts.ensures in
    let jobs : c.if-n_jobs-eq0.asked ≡ asked_jobs c.args.pool.now.threads c.args.n_jobs = search rules in
    subst (λ n. AreAttempts g.J.Job.meets g.J.Job.fails c.args.items n c.in_ok-update_one.field-0.items) jobs
    (finished g.J.Job.meets g.J.Job.fails c.args.items c.if-n_jobs-eq0.asked c.in_ok-attempts.attempts.items
    c.in_ok-attempts-2.attempts.items c.unstop.new.attempts.items c.in_ok-update_one.field-0.items cut.whole cut.lengths cut.none
    c.in_ok-attempts-2.ensures.updated c.unstop.ensures c.in_ok-update_one.ensures.updated)
