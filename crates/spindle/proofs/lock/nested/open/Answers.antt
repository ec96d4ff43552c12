-- The closure was called with a leader of a lock of these threads, with so many slots.
use Rattle.std.proofs.Common.{ap, ◌∙◌}
use Rattle.spindle_rounds.specs.declared.threads.tables.ThreadCounts.{ThreadCounts}
use Rattle.spindle.specs.SlotLeaders.{WasLed}
use Rattle.spindle.proofs.lock.nested.open.Goals as goal

pub returns-in-Some-clause-promise : goal.returns-in-Some-clause-promise
unfolding WasLed
returns-in-Some-clause-promise g c =
    let made = c.in_ok-child.ensures in let p = c.lead.ensures in
    (p.0, p.1, (p.2.0 ∙ (ap (λ (k : ThreadCounts). k.most) made.counts ∙ c.counts_for-counts.ensures.most), p.2.1 ∙ made.slots), p.3)

pub returns-clause-promise : goal.returns-clause-promise
unfolding WasLed
returns-clause-promise g c =
    let made = c.in_ok-child.ensures in let p = c.lead-2.ensures in
    (p.0, p.1, (p.2.0 ∙ (ap (λ (k : ThreadCounts). k.most) made.counts ∙ c.counts_for-counts.ensures.most), p.2.1 ∙ made.slots), p.3)
