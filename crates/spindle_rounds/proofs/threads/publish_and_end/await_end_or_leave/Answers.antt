-- The turn that ends the wait, after others that didn't.
use Rattle.std.proofs.Common.{ℕ, [], ◌∷◌, refl, subst, ◌∙◌}
use Rattle.spindle_rounds.specs.Holding.{TurnsLast}
use Rattle.spindle_rounds.specs.Passing.{TurnsOn}
use Rattle.spindle_rounds.proofs.BarrierClients.{stayed_first, stayed_on, stayed_leaving, keeps_first, keeps_on, await_on, may_wait, same_sense}
use Rattle.spindle_rounds.specs.Accounts.{account_of}
use Rattle.spindle_rounds.specs.Waits.{patience_of}
use Rattle.spindle_rounds.proofs.Leaving.{same_thread_first, same_thread_on, told_out}
use Rattle.spindle_rounds.proofs.Waits.{looked}
use Rattle.spindle_rounds.proofs.threads.publish_and_end.await_end_or_leave.Goals as goal

pub loop-init : goal.loop-init
loop-init g c = record {
  held = (keeps_first c.args.barrier c.requires.held, stayed_first _);
  same = same_thread_first c.args.signals.now;
  patience = c.idle_until_end-idle.ensures.0;
  turns = ([], (refl, refl));
}

pub take_turn-requires-clause-held : goal.take_turn-requires-clause-held
take_turn-requires-clause-held g c = c.loop.invariant.held.0.0

pub take_turn-requires-clause-waiting : goal.take_turn-requires-clause-waiting
take_turn-requires-clause-waiting g c = stayed_leaving _ _ c.loop.invariant.held.1 c.requires.waiting

pub returns-in-Err : goal.returns-in-Err
returns-in-Err g c = let i = c.loop.invariant in let n = c.requests_if-asked.result in let t = i.turns in let e = c.in-Err.ensures in
    let s = same_sense c.args.barrier c.loop.barrier c.requires.held i.held.0.0 i.held.1 (may_wait c.args.barrier.seat.me c.requires.waiting) in record {
      status = told_out c.args.barrier c.in-Err.status c.requires.held c.requires.waiting
          (await_on c.args.barrier c.loop.barrier c.in-Err.status c.requires.held c.requires.waiting i.held e.ends);
      turns = (
        t.0,
        n,
        account_of c.loop.signals,
        c.loop.barrier.seat.me,
        t.1,
        looked c.loop.idle.waited n c.looks_at_requests.result _ _ c.requests_if-asked.ensures.read _ (patience_of c.args.tables.now)
            i.patience c.looks_at_requests.ensures.late c.requests_if-asked.ensures.unread,
        subst
            (λ (z : ℕ). TurnsLast z n c.loop.barrier.seat.me c.in-Err.status) s e.last,
      );
      same = same_thread_on c.args.signals.now c.loop.signals c.requests_if-asked.new.self i.same c.requests_if-asked.ensures.same;
    }

pub loop-preserved : goal.loop-preserved
loop-preserved g c = let i = c.loop.invariant in let n = c.requests_if-asked.result in let t = i.turns in let e = c.in-Ok.ensures in
    let s = same_sense c.args.barrier c.loop.barrier c.requires.held i.held.0.0 i.held.1 (may_wait c.args.barrier.seat.me c.requires.waiting) in record {
      held = (keeps_on c.args.barrier c.loop.barrier c.in-Ok.barrier i.held.0 e.stays.0, stayed_on _ _ _ i.held.1 e.stays.1);
      same = same_thread_on c.args.signals.now c.loop.signals c.requests_if-asked.new.self i.same c.requests_if-asked.ensures.same;
      patience = c.pass_or_hurry.ensures ∙ i.patience;
      turns = (
        n ∷ t.0,
        (
          account_of c.loop.signals,
          c.loop.barrier.seat.me,
          t.1,
          looked c.loop.idle.waited n c.looks_at_requests.result _ _ c.requests_if-asked.ensures.read _ (patience_of c.args.tables.now)
              i.patience c.looks_at_requests.ensures.late c.requests_if-asked.ensures.unread,
          subst
              (λ (z : ℕ). TurnsOn z n c.loop.barrier.seat.me c.in-Ok.barrier.seat.me) s e.on,
        ),
      );
    }
