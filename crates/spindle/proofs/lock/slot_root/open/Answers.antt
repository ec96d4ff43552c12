-- The closure was called with a leader of this lock, with its slots.
use Rattle.std.proofs.Common.{◌≡◌, ap, ◌∙◌}
use Rattle.spindle_rounds.specs.ThreadCounts.{lock_threads}
use Rattle.spindle_rounds.specs.declared.threads.tables.ThreadCounts.{ThreadCounts}
use Rattle.spindle.specs.SlotLeaders.{WasLed}
use Rattle.spindle.proofs.lock.slot_root.open.Goals as goal

pub returns-clause-promise : goal.returns-clause-promise
unfolding WasLed
returns-clause-promise g c =
    let size : c.new-counts.result.most ≡ lock_threads c.args.pool.now.threads c.args.max_threads =
    c.new-counts.ensures.most ∙ ap (λ n. lock_threads n c.args.max_threads) c.max_num_threads.ensures.number in
    let shared = c.in_ok-start.ensures ∙ c.deref.ensures ∙ c.in_ok-tables-2.ensures.ok in
    let p = c.scoped.ensures in (
      p.0,
      p.1,
      (p.2.0 ∙ (ap (λ t. t.counts.most) shared ∙ (ap (λ (k : ThreadCounts). k.most) c.in_ok-tables.ensures.made.0 ∙ size)), p.2.1),
      p.3,
    )
