-- The closure was called with a leader of a lock of these threads, all of which may take part in its rounds, or it alone.
use Rattle.std.proofs.Common.{ap, inl, inr, sym, refl, ◌∙◌}
use Rattle.spindle_rounds.specs.declared.threads.tables.ThreadCounts.{ThreadCounts}
use Rattle.spindle_locks.specs.Locks.{nested_workers}
use Rattle.spindle_locks.proofs.lock.nested.rounds.JobCx+Under+K.with_lock.Goals as goal

pub returns-in-Some-take-clause-promise : goal.returns-in-Some-take-clause-promise
returns-in-Some-take-clause-promise g c =
    let leads = c.take_lead-leader.ensures in let counts = c.in_ok-child.ensures.counts in
    let all = leads.threads ∙ ap (λ (k : ThreadCounts). k.most) counts in (
      c.take_lead-leader.result,
      _,
      all ∙ c.counts_for-counts.ensures.most,
      inr (leads.workers ∙ (ap (λ (k : ThreadCounts). k.threads) counts
          ∙ (c.counts_for-counts.ensures.workers ∙ ap (nested_workers c.args.self.now.has_slots) (sym all)))),
      record { shown = _; shows = refl; left = _; met = c.f-answer.ensures; leaves = refl },
    )

pub returns-clause-promise : goal.returns-clause-promise
returns-clause-promise g c = let leads = c.take_lead-leader-2.ensures in let counts = c.in_ok-child-2.ensures.counts in (
  c.take_lead-leader-2.result,
  _,
  leads.threads ∙ (ap (λ (k : ThreadCounts). k.most) counts ∙ (c.alone.ensures.most ∙ c.counts_for-counts.ensures.most)),
  inl (leads.workers ∙ (ap (λ (k : ThreadCounts). k.threads) counts ∙ c.alone.ensures.alone)),
  record { shown = _; shows = refl; left = _; met = c.f.ensures; leaves = refl },
)
