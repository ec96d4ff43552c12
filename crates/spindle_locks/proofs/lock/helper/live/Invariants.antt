-- It isn't the leader, and stands at the same tables with the same seat.
use Rattle.std.proofs.Common.{◌≡◌, false}
use Rattle.spindle_rounds.specs.Members.{party_view}
use Rattle.spindle_rounds.specs.Seating.{IsSameSeat}
use Rattle.spindle_locks.proofs.lock.helper.live.Given as goal

abbrev pub invariant-loop : goal.invariant-loop
invariant-loop g l = record {
  helper : (party_view l.member.barrier).leader ≡ false;
  tables : l.member.tables.now ≡ l.fn.member.tables.now;
  thread : l.member.thread ≡ l.fn.member.thread;
  seat : IsSameSeat l.fn.member.barrier.seat l.member.barrier.seat;
}
