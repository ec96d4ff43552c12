-- So far it neither saw the end nor left, and each turn looked at requests.
use Rattle.std.proofs.Common.{◌≡◌, ℕ, List}
use Rattle.spindle_rounds.specs.Holding.{Keeps}
use Rattle.spindle_rounds.specs.Passing.{Stayed, Turned}
use Rattle.spindle_rounds.specs.Accounts.{IsSameThread, account_of}
use Rattle.spindle_rounds.specs.Waits.{LookedAtRequests, patience_of}
use Rattle.spindle_rounds.proofs.threads.publish_and_end.await_end_or_leave.Given as goal

abbrev pub invariant-loop : goal.invariant-loop
invariant-loop g l = record {
  held : Keeps l.fn.barrier l.barrier × Stayed l.fn.barrier.seat.me l.barrier.seat.me;
  same : IsSameThread l.fn.signals l.signals;
  patience : l.idle.patience ≡ patience_of l.fn.tables;
  turns : (ns : List ℕ) × Turned (LookedAtRequests (patience_of l.fn.tables)) l.fn.barrier.sense ns (account_of l.fn.signals) (account_of l.signals)
      l.fn.barrier.seat.me l.barrier.seat.me;
}
