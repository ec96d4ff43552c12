-- A new tally has noted nothing, whatever is marked.
use Rattle.spindle_locks_tests.proofs.tray_rows.tallied.Goals as goal

pub tally-requires-clause-fresh : goal.tally-requires-clause-fresh
tally-requires-clause-fresh g c = c.in_ok-tally.ensures.fresh c.args.left.now
