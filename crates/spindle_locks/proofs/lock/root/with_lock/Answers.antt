-- The closure was called with a leader of this lock.
use Rattle.std.proofs.Common.{◌≡◌, ap, sym, ◌∙◌, rules}
use Rattle.spindle_rounds.specs.declared.threads.tables.ThreadCounts.{ThreadCounts}
use Rattle.spindle_locks.specs.Leaders.{WasLed}
use Rattle.spindle_rounds.specs.ThreadCounts.{lock_threads}
use Rattle.spindle_locks.proofs.lock.root.with_lock.Goals as goal

pub returns-clause-promise : goal.returns-clause-promise
unfolding WasLed
returns-clause-promise g c =
    let counts = c.in_ok-tables.ensures.counts in let new = c.new-counts.ensures in
    let size : c.new-counts.result.most ≡ lock_threads c.args.pool.now.threads c.args.max_threads =
    new.most ∙ ap (λ n. lock_threads n c.args.max_threads) c.max_num_threads.ensures.number in
    let p = c.scoped.ensures in
    let same = c.in_ok-leader_start.ensures in
    let most = p.2 ∙ (ap (λ t. t.counts.most) same ∙ ap (λ (k : ThreadCounts). k.most) counts) in
    (p.0, p.1, most ∙ size, p.3 ∙ (ap (λ t. t.counts.threads) same ∙ (ap (λ (k : ThreadCounts). k.threads) counts ∙ (new.all ∙ sym most))), p.4)

pub returns-in_err-workspace-clause-memory : goal.returns-in_err-workspace-clause-memory
returns-in_err-workspace-clause-memory g c = search rules
