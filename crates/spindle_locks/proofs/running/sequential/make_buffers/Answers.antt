-- One buffer more is made, empty and large enough.
use Rattle.std.proofs.Common.{◌≡◌, ◌≤◌, [], length, vec_capacity, inl, subst, sym, ap, arith, rules, slice_index_or, Vec, Global, List}
use Rattle.spindle_locks.specs.PieceRuns.{piece_at}
use Rattle.spindle_locks.specs.Reports.{IsBufferFor}
use Rattle.spindle_locks.proofs.Buffers.{buffers_more}
use Rattle.spindle_locks.proofs.running.sequential.make_buffers.Goals as goal

pub loop-number-preserved : goal.loop-number-preserved
loop-number-preserved g c = let p = c.args.pieces.now in let i = c.loop-number in let e = c.push_reserved.ensures in let buffer = c.reserve.new.self in
    let empty : buffer.items ≡ [] = search rules in let run = ap length {y = piece_at p.items p.count i.number} c.piece.ensures.run in
    let long : length i.buffers.items ≡ i.number = search rules in
    let large : length c.piece.result.now ≤ vec_capacity buffer = search rules in record {
      len = search rules;
      room = search rules;
      fit = λ k d lt. subst (λ (xs : List (Vec g.row.J-Out.Denot Global)).
          IsBufferFor g.J.Job.meets (piece_at p.items p.count k) (slice_index_or xs k d)) (sym e.items)
          (buffers_more g.J.Job.meets p.items p.count i.buffers.items i.number buffer long (inl (empty, omega (arith, run, large))) i.invariant.fit k d lt);
    }

pub returns-clause-fit : goal.returns-clause-fit
returns-clause-fit g c = let i = c.loop-number.invariant in let long = c.loop-number.buffers.ok.0 in (omega arith, λ k d le lt. i.fit k d (omega (arith, lt)))
