-- The member is the same, and so is its party's part; no turn found news.
use Rattle.std.proofs.Common.{◌≡◌, Bool, List}
use Rattle.spindle_rounds.specs.Accounts.{account_of}
use Rattle.spindle_rounds.specs.Members.{party_view}
use Rattle.spindle_rounds.specs.Waits.{FoundNoNews, patience_of}
use Rattle.spindle_rounds.specs.Seating.{IsSameSeat}
use Rattle.spindle_rounds.proofs.threads.helper_waits.await_news.Given as goal

abbrev pub invariant-loop : goal.invariant-loop
invariant-loop g l = record {
  tables : l.member.tables ≡ l.fn.member.tables;
  thread : l.member.thread ≡ l.fn.member.thread;
  leader : (party_view l.member.barrier).leader ≡ (party_view l.fn.member.barrier).leader;
  seat : IsSameSeat l.fn.member.barrier.seat l.member.barrier.seat;
  patience : l.idle.patience ≡ patience_of l.fn.member.tables.now;
  turns : (rests : List Bool) × FoundNoNews (patience_of l.fn.member.tables.now) rests (account_of l.fn.signals) (account_of l.signals)
      (party_view l.fn.member.barrier) (party_view l.member.barrier);
}
