-- There is room for one more piece's outputs, and they answer its items.
use Rattle.std.proofs.Common.{arith}
use Rattle.spindle_locks.proofs.PieceRuns.{room_for_next, answered_next}
use Rattle.spindle_locks.proofs.running.in_trays.run_next.Goals as goal

pub run-requires-clause-room : goal.run-requires-clause-room
run-requires-clause-room g c = omega (arith, room_for_next _ _ _ _ _ c.args.outputs.now c.requires.left c.piece-items.ensures.run c.requires.answered)

pub returns : goal.returns
returns g c = answered_next _ _ _ _ _ c.args.outputs.now c.run.new.outputs c.requires.left c.piece-items.ensures.run c.requires.answered
    c.run.ensures.answered (omega (arith, c.run.ensures.room))
