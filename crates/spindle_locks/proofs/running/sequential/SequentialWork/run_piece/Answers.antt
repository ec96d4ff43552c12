-- The buffer of the number is empty or has run; then it has run.
use Rattle.std.proofs.Common.{◌<◌, rules, sym, subst, arith}
use Rattle.std.specs.List.{AllZip, Any}
use Rattle.spindle_locks.specs.Reports.{IsBufferFor}
use Rattle.spindle_locks.proofs.Buffers.{failed_kept, failed_set, buffer_at, buffers_set}
use Rattle.spindle_locks.proofs.running.sequential.SequentialWork.run_piece.Goals as goal

pub run_in_buffer-requires-clause-fits : goal.run_in_buffer-requires-clause-fits
run_in_buffer-requires-clause-fits g c κs within = let p = c.args.self.now.pieces.now in let buffer = c.index_mut-buffer.result.now in
    let lt : c.args.number < p.count = search rules in
    subst (λ xs. IsBufferFor g.J.Job.meets xs buffer) (sym c.piece-items.ensures.run)
    (buffer_at g.J.Job.meets p.items p.count c.args.self.now.buffers.items 0 c.args.number buffer (omega arith) lt c.index_mut-buffer.ensures.value c.requires)

pub returns-clause-fit : goal.returns-clause-fit
returns-clause-fit g c = let p = c.args.self.now.pieces.now in let done = c.run_in_buffer.new.buffer in
    let lt : c.args.number < p.count = search rules in
    buffers_set g.J.Job.meets p.items p.count c.args.self.now.buffers.items c.args.number done lt
    (subst (λ xs. AllZip g.J.Job.meets xs done.items) c.piece-items.ensures.run c.run_in_buffer.ensures.answered) c.requires

pub returns-clause-kept : goal.returns-clause-kept
returns-clause-kept g c = λ f h. failed_kept g.J.Job.fails c.args.self.now.buffers.items c.args.number f c.index_mut-buffer.result.now
    c.run_in_buffer.new.buffer
    c.index_mut-buffer.ensures.value c.run_in_buffer.ensures.kept h

pub returns-clause-failed : goal.returns-clause-failed
returns-clause-failed g c = λ t. let lt : c.args.number < c.args.self.now.pieces.now.count = search rules in (
  lt,
  failed_set g.J.Job.fails c.args.self.now.buffers.items c.args.number c.run_in_buffer.new.buffer
      (subst (Any g.J.Job.fails) c.as_slice.ensures.value (c.has_failure.ensures t)),
)
