-- An arrival, and then the round's end or a leave.
use Rattle.std.proofs.Common.{refl, inl, inr}
use Rattle.spindle_rounds.proofs.BarrierClients.{passed_from, arrived_closes, keeps_on}
use Rattle.spindle_rounds.proofs.Leaving.{arrived_out, same_thread_first}
use Rattle.spindle_rounds.proofs.threads.publish_and_end.end_or_leave.Goals as goal

pub returns-in-Closer : goal.returns-in-Closer
returns-in-Closer g c = let e = c.close.ensures in let a = c.in-Closer.ensures.step in record {
  status = (
    keeps_on c.args.barrier c.arrive.new.self c.close.new.self c.arrive.ensures.held e.held,
    passed_from _ _ c.args.barrier.seat.me c.arrive.new.self.seat.me _ refl (arrived_closes c.args.barrier.seat.me c.arrive.new.self.seat.me a) e.next,
  );
  turns = inr (c.arrive.new.self.seat.me, a, tt, refl);
  same = same_thread_first c.args.signals.now;
}

pub returns-in-Arrived-clause-status : goal.returns-in-Arrived-clause-status
returns-in-Arrived-clause-status g c = arrived_out c.args.barrier c.arrive.new.self c.await_end_or_leave.result c.requires.held c.arrive.ensures.held
    c.in-Arrived.ensures.step c.await_end_or_leave.ensures.status

pub returns-in-Arrived-clause-turns : goal.returns-in-Arrived-clause-turns
returns-in-Arrived-clause-turns g c = let b = c.arrive.new.self in
    inl (b.seat.me, b.sense, c.arrive.ensures.held.0.1, c.in-Arrived.ensures.step, c.await_end_or_leave.ensures.turns)
