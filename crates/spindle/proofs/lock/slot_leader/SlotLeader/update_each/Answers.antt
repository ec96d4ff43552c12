-- There are two jobs or more, and no more than there are items or slots.
use Rattle.std.proofs.Common.{refl, subst, sym}
use Rattle.spindle_rounds.specs.RoundConditions.{MayFill}
use Rattle.spindle.proofs.Jobs.{some_jobs, two_jobs}
use Rattle.spindle.proofs.lock.slot_leader.SlotLeader.update_each.Goals as goal

pub play_in_place-requires-clause-jobs : goal.play_in_place-requires-clause-jobs
play_in_place-requires-clause-jobs g c =
    let jobs = some_jobs _ _ _ _ _ _ c.if-is_empty.ensures c.requires.jobs c.slots-slots.ensures.range.0 c.len.ensures c.min.ensures c.min-jobs.ensures in
    let two = two_jobs _ _ _ _ refl jobs.0 c.if-jobs-eq1.false jobs.2 c.slots-slots.ensures.number in (two.0, jobs.1, two.1)

pub returns-then-jobs-eq1-clause-goes_on : goal.returns-then-jobs-eq1-clause-goes_on
returns-then-jobs-eq1-clause-goes_on g c =
    let e = c.play_alone.ensures in ((refl, e.slots), subst (λ v. MayFill v) (sym e.view) c.slots-slots.ensures.between)
