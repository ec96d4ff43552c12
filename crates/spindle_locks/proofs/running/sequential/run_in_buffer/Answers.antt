-- An empty buffer is large enough.
use Rattle.std.proofs.Common.{◌≡◌, arith, length, vec_len, rules}
use Rattle.spindle_locks.proofs.Buffers.{buffer_fits}
use Rattle.spindle_locks.proofs.running.sequential.run_in_buffer.Goals as goal

pub run-requires-clause-room : goal.run-requires-clause-room
run-requires-clause-room g c κs within = let short : vec_len c.args.buffer.now ≡ 0 = search rules in
    let none : length c.args.buffer.now.items ≡ 0 = search rules in
    buffer_fits g.J.Job.meets c.args.items.now c.args.buffer.now c.requires.fits short none

pub returns-clause-kept : goal.returns-clause-kept
returns-clause-kept g c = λ any. let none : length c.args.buffer.now.items ≡ 0 = search rules in let lt = any.2 in absurd (omega arith)
