-- One turn: a leave or a look.
use Rattle.std.proofs.Common.{arith}
use Rattle.spindle_rounds.proofs.BarrierClients.{look_ended, look_closing, look_on, turned_look, leave_again, may_wait}
use Rattle.spindle_rounds.proofs.barrier.Barrier.take_turn.Goals as goal

pub returns-in-Ended-clause-ends : goal.returns-in-Ended-clause-ends
returns-in-Ended-clause-ends g c = let m = c.args.self.seat.me in let e = c.in-Ended.ensures in
    (e.0, look_ended m c.in-Ended.next.seat.me c.args.self.sense (may_wait m c.requires.waiting) c.requires.held.1 e.1)

pub returns-in-Closing-clause-stays : goal.returns-in-Closing-clause-stays
returns-in-Closing-clause-stays g c = let m = c.args.self.seat.me in let e = c.in-Closing.ensures in
    (e.0, look_closing m c.in-Closing.barrier.seat.me c.args.self.sense (may_wait m c.requires.waiting) c.requires.held.1 e.1)

pub returns-in-Again-clause-stays : goal.returns-in-Again-clause-stays
returns-in-Again-clause-stays g c = let m = c.args.self.seat.me in let e = c.in-Again.ensures in
    (e.0, leave_again m c.in-Again.barrier.seat.me c.args.self.sense (may_wait m c.requires.waiting) c.requires.held.1 e.1)

pub returns-in-Ended-look-clause-ends : goal.returns-in-Ended-look-clause-ends
returns-in-Ended-look-clause-ends g c = let m = c.args.self.seat.me in let e = c.in-Ended-look.ensures in
    (e.held.0, look_ended m c.look.new.self.seat.me c.args.self.sense (may_wait m c.requires.waiting) c.requires.held.1 e.step)

pub returns-in_default : goal.returns-in_default
returns-in_default g c = let m = c.args.self.seat.me in let e = c.look.ensures in record {
  stays = (
    e.held.0,
    look_on m c.look.new.self.seat.me c.args.self.sense (may_wait m c.requires.waiting) c.requires.held.1 c.look.result c.in_default.not-Ended e.step,
  );
  ends = tt;
  on = turned_look m c.look.new.self.seat.me c.args.self.sense c.args.asked c.look.result c.in_default.not-Ended (omega arith) e.step;
  last = tt;
}
