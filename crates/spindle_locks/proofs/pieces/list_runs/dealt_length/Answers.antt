-- A thread is dealt its run, and a left-over number where there is one for it.
use Rattle.spindle_locks.proofs.Addresses.{longer_dealt, shorter_dealt}
use Rattle.spindle_locks.proofs.pieces.list_runs.dealt_length.Goals as goal

pub returns-then-thread-pieces : goal.returns-then-thread-pieces
returns-then-thread-pieces c = longer_dealt c.args.pieces c.args.threads c.args.thread c.requires c.if-thread-pieces.true

pub returns-else-thread-pieces : goal.returns-else-thread-pieces
returns-else-thread-pieces c = shorter_dealt c.args.pieces c.args.threads c.args.thread c.requires c.if-thread-pieces.false
