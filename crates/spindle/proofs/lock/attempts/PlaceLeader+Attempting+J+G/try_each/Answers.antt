-- The round is over; or the pieces that are left run in another.
use Rattle.std.proofs.Common.{◌⊎◌, subst}
use Rattle.std.specs.List.{All, Any}
use Rattle.spindle.specs.Attempts.{HasFailed, HasRun}
use Rattle.spindle.proofs.AttemptLists.{finished, over}
use Rattle.spindle.proofs.lock.attempts.PlaceLeader+Attempting+J+G.try_each.Goals as goal

pub returns-then-is_over-clause-attempts : goal.returns-then-is_over-clause-attempts
returns-then-is_over-clause-attempts g c = let Fails = g.J.Job.fails in let cut = c.in_ok-attempts.ensures in
    let stopped = subst (λ l. All HasRun l ⊎ Any (HasFailed Fails) l) c.as_slice.ensures.value (c.is_over.ensures c.if-is_over.true) in
    over g.J.Job.meets Fails c.args.items c.args.n_jobs c.in_ok-attempts.attempts.items c.update_all.new.items.items
    cut.whole cut.lengths cut.none c.in_ok-update_all.ensures.updated stopped

pub returns-clause-attempts : goal.returns-clause-attempts
returns-clause-attempts g c = let cut = c.in_ok-attempts.ensures in
    finished g.J.Job.meets g.J.Job.fails c.args.items c.args.n_jobs c.in_ok-attempts.attempts.items c.update_all.new.items.items
    c.unstop.new.attempts.items c.update_all-2.new.items.items cut.whole cut.lengths cut.none
    c.in_ok-update_all.ensures.updated c.unstop.ensures c.in_ok-update_all-2.ensures.updated
