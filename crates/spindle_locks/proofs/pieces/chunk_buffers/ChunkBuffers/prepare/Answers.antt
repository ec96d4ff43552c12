-- One buffer more is ready.
use Rattle.std.proofs.Common.{◌/◌, ◌+◌, rules, sym, subst, ap, ◌∙◌}
use Rattle.spindle_locks.specs.InPlace.{HaveCapacity}
use Rattle.spindle_locks.proofs.InPlace.{room_more}
use Rattle.spindle_locks.proofs.pieces.chunk_buffers.ChunkBuffers.prepare.Goals as goal

pub loop-init : goal.loop-init
unfolding HaveCapacity
loop-init g c = record {
  buffers = subst (HaveCapacity (c.args.len / c.args.jobs + 1)) (sym (c.reserve-2.ensures.items ∙ c.put_aside.ensures.ready)) (tt {0});
  many = search rules;
  room = search rules;
  none = ap (λ chunks. chunks.items) c.put_aside.ensures.chunks ∙ (c.reserve.ensures.items ∙ c.clear.ensures.items);
  places = search rules;
}

pub loop-preserved : goal.loop-preserved
loop-preserved g c = let i = c.loop.invariant in record {
  buffers = subst (HaveCapacity (c.args.len / c.args.jobs + 1)) (sym c.push_reserved.ensures.items)
      (room_more (c.args.len / c.args.jobs + 1) c.take.new.self.ready.items c.reserve-in-loop.new.self
      (subst (λ ready. HaveCapacity (c.args.len / c.args.jobs + 1) ready.items) (sym c.take.ensures.ready) i.buffers) c.in_ok-reserve-3.ensures.room);
  many = search rules;
  room = search rules;
  none = search rules;
  places = search rules;
}
