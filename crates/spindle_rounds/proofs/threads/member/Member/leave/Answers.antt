-- Who exits stands outside, with what else its seat knew.
use Rattle.spindle_rounds.proofs.Leaving.{out_at, left_leader, post_at}
use Rattle.spindle_rounds.proofs.threads.member.Member.leave.Goals as goal

pub returns-then-departure-clause-out : goal.returns-then-departure-clause-out
returns-then-departure-clause-out g c = let e = c.depart-departure.ensures in
    out_at c.args.self.tables.now c.args.self.barrier c.depart-departure.result.seat (post_at c.args.self) c.args.self.idle e.seat e.out

pub returns-else-departure-clause-out : goal.returns-else-departure-clause-out
returns-else-departure-clause-out g c = let e = c.depart-departure.ensures in
    out_at c.args.self.tables.now c.args.self.barrier c.depart-departure.result.seat (post_at c.args.self) c.args.self.idle e.seat e.out

pub returns-then-departure-clause-leader : goal.returns-then-departure-clause-leader
returns-then-departure-clause-leader g c = left_leader c.args.self.barrier c.depart-departure.result.seat c.depart-departure.ensures.out

pub returns-else-departure-clause-leader : goal.returns-else-departure-clause-leader
returns-else-departure-clause-leader g c = left_leader c.args.self.barrier c.depart-departure.result.seat c.depart-departure.ensures.out
