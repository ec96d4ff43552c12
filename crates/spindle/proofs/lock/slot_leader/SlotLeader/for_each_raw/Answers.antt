-- There are two numbers or more, and room for an output for each.
use Rattle.std.proofs.Common.{rules}
use Rattle.spindle.proofs.Jobs.{numbers_have_room, one_has_room, two_or_more}
use Rattle.spindle.proofs.lock.slot_leader.SlotLeader.for_each_raw.Goals as goal

pub push_reserved-requires : goal.push_reserved-requires
push_reserved-requires g c = let room = c.in_ok-outputs.ensures in one_has_room _ _ _ c.if-n_jobs-eq1.true room.len room.capacity

pub play-requires-clause-jobs : goal.play-requires-clause-jobs
play-requires-clause-jobs g c κs within = two_or_more _ _ _ c.new-2.ensures c.if-n_jobs-eq0.false c.if-n_jobs-eq1.false c.requires.slots

pub play-requires-clause-empty : goal.play-requires-clause-empty
play-requires-clause-empty g c κs within = c.in_ok-outputs.ensures.items

pub play-requires-clause-room : goal.play-requires-clause-room
play-requires-clause-room g c κs within = numbers_have_room _ _ _ c.new-2.ensures c.in_ok-outputs.ensures.capacity

pub returns-then-n_jobs-eq1-clause-answer : goal.returns-then-n_jobs-eq1-clause-answer
returns-then-n_jobs-eq1-clause-answer g c = search rules
