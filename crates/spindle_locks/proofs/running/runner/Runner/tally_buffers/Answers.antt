-- One buffer more is taken out of, and its piece noted.
use Rattle.std.specs.Option.{option_or}
use Rattle.std.proofs.Common.{◌≡◌, ◌<◌, ◌≤◌, ◌∙◌, ⊎_elim, ap, sym, subst, true, length, get_or, eq-eqb, rules, arith}
use Rattle.std.specs.List.{Any}
use Rattle.std.proofs.lemmas.Bool.{cases_lt}
use Rattle.spindle_locks.specs.Reports.{is_marked, lost_at}
use Rattle.spindle_locks.proofs.Reports.{none_lost, told_here}
use Rattle.spindle_locks.proofs.Buffers.{failed_past, buffer_at, buffers_taken}
use Rattle.spindle_locks.proofs.running.runner.Runner.tally_buffers.Goals as goal

pub take_buffer-outputs-requires-clause-fits : goal.take_buffer-outputs-requires-clause-fits
take_buffer-outputs-requires-clause-fits g c κs within = let p = c.args.pieces.now in let i = c.loop-number in
    let lt : i.number < p.count = search rules in
    buffer_at g.J.Job.meets p.items p.count i.buffers.items i.number i.number c.index_mut-buffer.result.now (omega arith) lt c.index_mut-buffer.ensures.value
    i.invariant.fit

-- the buffer at hand has a failure where its number is the one that failed
pub note-requires-clause-failed : goal.note-requires-clause-failed
note-requires-clause-failed g c known = let i = c.loop-number in let buffer = c.index_mut-buffer.result.now in
    let lt : i.number < length i.buffers.items = search rules in let same : i.number ≡ c.args.failed = search rules in
    c.take_buffer-outputs.ensures.kept (subst (λ r. Any g.J.Job.fails r.items) (sym c.index_mut-buffer.ensures.value)
    (subst (λ k. Any g.J.Job.fails (get_or i.buffers.items k buffer).items) (sym same) (i.invariant.failed (omega arith) (omega arith) buffer)))

pub loop-number-preserved : goal.loop-number-preserved
loop-number-preserved g c = let p = c.args.pieces.now in let i = c.loop-number in record {
  fit = buffers_taken g.J.Job.meets p.items p.count i.buffers.items i.number c.take_buffer-outputs.new.buffer i.invariant.fit;
  noted = c.note.ensures.noted;
  whole = let outputs = c.take_buffer-outputs.result in let marked = is_marked c.args.left.now i.number in c.note.ensures.lost
      ∙ (ap (λ o. option_or o (lost_at marked outputs i.number)) i.invariant.whole ∙ none_lost marked outputs i.number c.take_buffer-outputs.ensures.ran);
  failed = failed_past g.J.Job.fails i.buffers.items i.number c.args.failed c.take_buffer-outputs.new.buffer i.invariant.failed;
  told = λ lt. ⊎_elim (λ (before : c.args.failed < i.number). c.note.ensures.failed (i.invariant.told before))
      (λ (here : i.number ≤ c.args.failed). let same : i.number ≡ c.args.failed = omega arith in
      let bare : is_marked c.args.left.now i.number ≡ true → ⊥ = (λ m. c.requires.unmarked (omega arith)
      (subst (λ k. is_marked c.args.left.now k ≡ true) same m)) in
      told_here c.take_buffer-outputs.result (is_marked c.args.left.now i.number) c.note.new.self.failed c.take_buffer-outputs.ensures.ran bare
      (c.note.ensures.told (eq-eqb i.number c.args.failed same))) (cases_lt c.args.failed i.number);
  site = c.take_buffer-outputs.ensures.site ∙ i.invariant.site;
}
