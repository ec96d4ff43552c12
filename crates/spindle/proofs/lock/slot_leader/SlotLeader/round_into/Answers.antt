-- There are as many jobs as are asked for, or as there are items or slots, and room for an output for each item.
use Rattle.std.proofs.Common.{◌∙◌}
use Rattle.spindle.proofs.Jobs.{all_have_room, some_jobs, two_jobs}
use Rattle.spindle.proofs.lock.slot_leader.SlotLeader.round_into.Goals as goal

pub new-requires : goal.new-requires
new-requires g c =
    let jobs = some_jobs _ _ _ _ _ _ c.if-is_empty.ensures c.requires.jobs c.slots-slots.ensures.range.0 c.len.ensures c.min.ensures c.min-jobs.ensures in
    (jobs.0, jobs.1)

pub play-requires-clause-jobs : goal.play-requires-clause-jobs
play-requires-clause-jobs g c κs within =
    let jobs = some_jobs _ _ _ _ _ _ c.if-is_empty.ensures c.requires.jobs c.slots-slots.ensures.range.0 c.len.ensures c.min.ensures c.min-jobs.ensures in
    two_jobs _ _ _ _ c.in_ok-items.ensures.pieces jobs.0 c.if-jobs-eq1.false jobs.2 c.slots-slots.ensures.number

pub play-requires-clause-empty : goal.play-requires-clause-empty
play-requires-clause-empty g c κs within = c.reserve.ensures.items ∙ c.clear.ensures.items

pub play-requires-clause-room : goal.play-requires-clause-room
play-requires-clause-room g c κs within =
    all_have_room _ _ _ _ _ _ c.in_ok-items.ensures.items c.args.items.ok.0 c.len-2.ensures c.in_ok-reserve.ensures.ok
