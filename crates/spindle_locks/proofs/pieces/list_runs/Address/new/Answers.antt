-- A number stands in its thread's run, or behind one.
use Rattle.spindle_locks.proofs.Addresses.{own_address, rest_address}
use Rattle.spindle_locks.proofs.pieces.list_runs.Address.new.Goals as goal

pub returns-then-number-in_runs-clause-place : goal.returns-then-number-in_runs-clause-place
returns-then-number-in_runs-clause-place c =
    own_address c.args.number c.args.pieces c.args.threads c.requires.threads c.if-number-in_runs.true

pub returns-else-number-in_runs-clause-place : goal.returns-else-number-in_runs-clause-place
returns-else-number-in_runs-clause-place c =
    rest_address c.args.number c.args.pieces c.args.threads c.requires.threads c.if-number-in_runs.false c.requires.number
