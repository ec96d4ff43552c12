-- A place below the run's length stands in the run; the one behind it has the thread's left-over number.
use Rattle.std.proofs.Common.{◌∙◌, ap, arith}
use Rattle.std.specs.Prelude.{slice_get}
use Rattle.spindle_parts.specs.Pieces.{counted, dealt}
use Rattle.spindle_locks.proofs.Addresses.{dealt_own, dealt_rest, run_ends, behind}
use Rattle.spindle_locks.proofs.pieces.list_runs.Address.number.Goals as goal

pub overflow_add-result-else-self-each : goal.overflow_add-result-else-self-each
overflow_add-result-else-self-each c =
    let last = behind c.args.pieces c.args.threads c.args.self.thread c.args.self.place c.requires.thread c.requires.place c.if-self-each.false in
    omega (arith, last.1, c.ranges.pieces.fits)

pub returns-then-self-each-clause-number : goal.returns-then-self-each-clause-number
returns-then-self-each-clause-number c =
    dealt_own c.args.pieces c.args.threads c.args.self.thread c.args.self.place c.if-self-each.true
    (run_ends c.args.pieces c.args.threads c.args.self.thread (omega (arith, c.requires.thread)) c.requires.thread)

pub returns-else-self-each-clause-number : goal.returns-else-self-each-clause-number
returns-else-self-each-clause-number c =
    let last = behind c.args.pieces c.args.threads c.args.self.thread c.args.self.place c.requires.thread c.requires.place c.if-self-each.false in
    ap (slice_get (dealt (counted 0 c.args.pieces) c.args.threads c.args.self.thread)) last.0
    ∙ dealt_rest c.args.pieces c.args.threads c.args.self.thread (run_ends c.args.pieces c.args.threads c.args.self.thread
    (omega (arith, c.requires.thread)) c.requires.thread) last.1

pub returns-else-self-each-clause-below : goal.returns-else-self-each-clause-below
returns-else-self-each-clause-below c =
    let last = behind c.args.pieces c.args.threads c.args.self.thread c.args.self.place c.requires.thread c.requires.place c.if-self-each.false in
    last.1
