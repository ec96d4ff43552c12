-- An arrival, and then the round's end or a leave.
use Rattle.std.proofs.Common.{refl, inl, inr}
use Rattle.spindle_rounds.proofs.BarrierClients.{passed_from, arrived_closes, status_of, keeps_on}
use Rattle.spindle_rounds.proofs.barrier.Barrier.wait_and_clear_while.Goals as goal

pub returns-in-Closer : goal.returns-in-Closer
returns-in-Closer g c = let e = c.close.ensures in let a = c.in-Closer.ensures.step in record {
  status = (
    keeps_on c.args.self c.arrive.new.self c.close.new.self c.arrive.ensures.held e.held,
    passed_from _ _ c.args.self.seat.me c.arrive.new.self.seat.me _ refl (arrived_closes c.args.self.seat.me c.arrive.new.self.seat.me a) e.next,
  );
  turns = inr (c.arrive.new.self.seat.me, a, tt);
}

pub returns-in-Arrived : goal.returns-in-Arrived
returns-in-Arrived g c = let a = c.in-Arrived.ensures.step in let e = c.await_end_while.ensures in record {
  status = status_of c.args.self c.arrive.new.self c.await_end_while.result c.requires.held c.arrive.ensures.held a e.status;
  turns = inl (c.arrive.new.self.seat.me, c.arrive.new.self.sense, c.arrive.ensures.held.0.1, a, e.turns);
}
