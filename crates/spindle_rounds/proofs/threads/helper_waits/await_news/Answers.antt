-- Each turn leaves the member as it was, and reads what it has to, until one finds news.
use Rattle.std.proofs.Common.{◌≡◌, ℕ, [], ◌∷◌, refl, subst, ◌∙◌, arith}
use Rattle.spindle_rounds.specs.Accounts.{account_of}
use Rattle.spindle_rounds.specs.Members.{party_view}
use Rattle.spindle_rounds.specs.Waits.{LookedAtRequests, patience_of}
use Rattle.spindle_rounds.proofs.Waits.{looked, was_read}
use Rattle.spindle_rounds.proofs.threads.helper_waits.await_news.Goals as goal

pub loop-init : goal.loop-init
loop-init g c = record {
  tables = refl;
  thread = refl;
  leader = refl;
  seat = (refl, refl);
  patience = c.idle_until_news-idle.ensures.0;
  turns = ([], (refl, refl));
}

pub returns-then-is_exit_announced-clause-turns : goal.returns-then-is_exit_announced-clause-turns
returns-then-is_exit_announced-clause-turns g c = let t = c.loop.invariant.turns in
    (t.0, account_of c.loop.signals, party_view c.loop.member.barrier, t.1, (c.if-is_exit_announced.ensures.read, refl))

pub returns-then-is_exit_announced-clause-member : goal.returns-then-is_exit_announced-clause-member
returns-then-is_exit_announced-clause-member g c = let i = c.loop.invariant in (i.tables, i.thread)

pub returns-then-is_exit_announced-clause-leader : goal.returns-then-is_exit_announced-clause-leader
returns-then-is_exit_announced-clause-leader g c = c.loop.invariant.leader

pub returns-then-is_exit_announced-clause-seat : goal.returns-then-is_exit_announced-clause-seat
returns-then-is_exit_announced-clause-seat g c = c.loop.invariant.seat

pub returns-in-Some-published-clause-turns : goal.returns-in-Some-published-clause-turns
returns-in-Some-published-clause-turns g c = let t = c.loop.invariant.turns in
    (t.0, account_of c.loop.signals, party_view c.loop.member.barrier, t.1, (c.if-is_exit_announced.ensures.read, c.in-Some-published.ensures.looked))

pub returns-in-Some-published-clause-member : goal.returns-in-Some-published-clause-member
returns-in-Some-published-clause-member g c = let i = c.loop.invariant in let e = c.published.ensures.member in (e.0 ∙ i.tables, e.1 ∙ i.thread)

pub returns-in-Some-published-clause-leader : goal.returns-in-Some-published-clause-leader
returns-in-Some-published-clause-leader g c = c.published.ensures.leader ∙ c.loop.invariant.leader

pub returns-in-Some-published-clause-seat : goal.returns-in-Some-published-clause-seat
returns-in-Some-published-clause-seat g c = let i = c.loop.invariant.seat in let e = c.published.ensures.seat in (e.0 ∙ i.0, e.1 ∙ i.1)

pub returns-then-requests_if-gt0-clause-turns : goal.returns-then-requests_if-gt0-clause-turns
returns-then-requests_if-gt0-clause-turns g c = let i = c.loop.invariant in let t = i.turns in let n = c.requests_if.result in
    let look = looked c.loop.idle.waited n c.looks_at_requests.result _ _ c.requests_if.ensures.read _ (patience_of c.args.member.now.tables.now)
    i.patience c.looks_at_requests.ensures.late c.requests_if.ensures.unread in let some = c.if-requests_if-gt0.true in (
      t.0,
      account_of c.loop.signals,
      party_view c.loop.member.barrier,
      t.1,
      (account_of c.is_exit_announced.new.self, n, c.if-is_exit_announced.ensures.read, c.in_default.ensures.looked, some, was_read _ n _ _ some look),
    )

pub loop-preserved : goal.loop-preserved
loop-preserved g c = let i = c.loop.invariant in let e = c.published.ensures in let n = c.requests_if.result in let none : n ≡ 0 = omega arith in
    let look = looked c.loop.idle.waited n c.looks_at_requests.result _ _ c.requests_if.ensures.read _ (patience_of c.args.member.now.tables.now)
    i.patience c.looks_at_requests.ensures.late c.requests_if.ensures.unread in record {
      tables = e.member.0 ∙ i.tables;
      thread = e.member.1 ∙ i.thread;
      leader = e.leader ∙ i.leader;
      seat = (e.seat.0 ∙ i.seat.0, e.seat.1 ∙ i.seat.1);
      patience = c.pass.ensures ∙ i.patience;
      turns = (
        c.is_rest_announced.result ∷ i.turns.0,
        (
          account_of c.loop.signals,
          account_of c.is_exit_announced.new.self,
          account_of c.requests_if.new.self,
          party_view c.loop.member.barrier,
          i.turns.1,
          c.if-is_exit_announced.ensures.read,
          c.in_default.ensures.looked,
          subst
              (λ (z : ℕ). LookedAtRequests (patience_of c.args.member.now.tables.now) (account_of c.is_exit_announced.new.self) z
              (account_of c.requests_if.new.self)) none look,
          c.is_rest_announced.ensures.read,
        ),
      );
    }
