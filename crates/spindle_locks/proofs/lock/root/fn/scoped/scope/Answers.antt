-- The leader of the closure is one of this lock.
use Rattle.std.proofs.Common.{ap, refl, ◌∙◌}
use Rattle.spindle_locks.specs.Leaders.{WasLed}
use Rattle.spindle_locks.proofs.lock.root.fn.scoped.scope.Goals as goal

pub returns : goal.returns
unfolding WasLed
returns g c = let e = c.new-leader.ensures in let t = c.start_helpers-member.ensures.tables in (
  c.new-leader.result,
  _,
  e.threads ∙ ap (λ t. t.counts.most) t,
  e.workers ∙ ap (λ t. t.counts.threads) t,
  record { shown = _; shows = refl; left = _; met = c.f-answer.ensures; leaves = refl },
)
