-- Neither waiting nor a round changes the helper's seat, its number and its lock.
use Rattle.std.proofs.Common.{ℕ, refl, ap, subst, ◌∙◌}
use Rattle.spindle_rounds.specs.Helpers.{IsHelperAt}
use Rattle.spindle_rounds.specs.Members.{IsOut}
use Rattle.spindle_locks.proofs.lock.helper.live.Goals as goal

pub loop-init : goal.loop-init
loop-init g c = record { helper = c.requires; tables = refl; thread = refl; seat = (refl, refl) }

pub follow-now-requires-clause-helper : goal.follow-now-requires-clause-helper
follow-now-requires-clause-helper g c κs within = c.await_news-news.ensures.leader ∙ c.loop.invariant.helper

pub rejoin-member-requires-clause-at : goal.rejoin-member-requires-clause-at
rejoin-member-requires-clause-at g c κs within = let i = c.loop.invariant in let a = c.await_news-news.ensures.member in
    subst (λ t. IsHelperAt t c.args.member.thread c.follow-now.result) (ap (λ t. t.now) a.0 ∙ i.tables)
    (subst (λ (n : ℕ). IsHelperAt c.await_news-news.new.member.tables.now n c.follow-now.result) (a.1 ∙ i.thread) c.follow-now.ensures.at)

pub rejoin-member-requires-clause-thread : goal.rejoin-member-requires-clause-thread
rejoin-member-requires-clause-thread g c κs within = c.args.member.numbered

pub loop-preserved : goal.loop-preserved
loop-preserved g c = let e = c.rejoin-member.ensures in let f = c.follow-now.ensures.seat in let a = c.await_news-news.ensures.seat in
    let i = c.loop.invariant.seat in record {
      helper = e.leader;
      tables = e.tables;
      thread = e.thread;
      seat = (e.seat.0 ∙ (f.0 ∙ (a.0 ∙ i.0)), e.seat.1 ∙ (f.1 ∙ (a.1 ∙ i.1)));
    }

pub returns-in-Exit-clause-out : goal.returns-in-Exit-clause-out
returns-in-Exit-clause-out g c =
    let same = ap (λ t. t.now) c.await_news-news.ensures.member.0 ∙ c.loop.invariant.tables in
    subst (λ t. IsOut t c.leave.result) same c.leave.ensures.out

pub returns-in-Exit-clause-leader : goal.returns-in-Exit-clause-leader
returns-in-Exit-clause-leader g c = c.leave.ensures.leader ∙ (c.await_news-news.ensures.leader ∙ c.loop.invariant.helper)

pub returns-in-Exit-clause-seat : goal.returns-in-Exit-clause-seat
returns-in-Exit-clause-seat g c = let i = c.loop.invariant.seat in let a = c.await_news-news.ensures.seat in let e = c.leave.ensures.seat in
    (e.0 ∙ (a.0 ∙ i.0), e.1 ∙ (a.1 ∙ i.1))
