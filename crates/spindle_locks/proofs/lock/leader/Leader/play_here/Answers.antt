-- One job adds its answers to an empty list, and a round of its own answers the items of its pieces.
use Rattle.std.proofs.Common.{subst}
use Rattle.std.specs.List.{AllZip}
use Rattle.spindle_locks.proofs.Buffers.{buffer_answers}
use Rattle.spindle_locks.proofs.lock.leader.Leader.play_here.Goals as goal

pub returns-then-jobs-eq1-clause-answer : goal.returns-then-jobs-eq1-clause-answer
returns-then-jobs-eq1-clause-answer g c = subst (λ xs. AllZip g.J.Job.meets xs c.run.new.outputs.items) c.as_slice-inputs.ensures.value
    (buffer_answers g.J.Job.meets c.as_slice-inputs.result.now c.args.outputs.now.items c.run.new.outputs.items c.requires.empty c.run.ensures.answered)

pub returns-in_ok-pieces-clause-answer : goal.returns-in_ok-pieces-clause-answer
returns-in_ok-pieces-clause-answer g c = rw c.in_ok-pieces.ensures.items at c.play_alone.ensures.answered

pub returns-in_ok-pieces-clause-played : goal.returns-in_ok-pieces-clause-played
returns-in_ok-pieces-clause-played g c two = rw c.in_ok-pieces.ensures.count at c.play_alone.ensures.played
