-- An arrival, and then the round's end.
use Rattle.std.proofs.Common.{refl}
use Rattle.spindle_rounds.proofs.BarrierClients.{passed_from, arrived_waits, arrived_closes}
use Rattle.spindle_rounds.proofs.threads.publish_and_end.end_round.Goals as goal

pub returns-in-Closer-clause-next : goal.returns-in-Closer-clause-next
returns-in-Closer-clause-next g c = passed_from _ _ _ _ _ refl
    (arrived_closes c.args.barrier.now.seat.me c.arrive.new.self.seat.me c.in-Closer.ensures.step) c.close.ensures.next

pub returns-in-Arrived-clause-next : goal.returns-in-Arrived-clause-next
returns-in-Arrived-clause-next g c = passed_from _ _ _ _ _ refl
    (arrived_waits c.args.barrier.now.seat.me c.arrive.new.self.seat.me c.in-Arrived.ensures.step) c.await_end.ensures.next
