-- One of the two looks has told it.
use Rattle.std.proofs.Common.{inl, inr}
use Rattle.spindle.proofs.lock.attempts.is_over.Goals as goal

pub returns-then-all_ran : goal.returns-then-all_ran
returns-then-all_ran g c = λ _. inl (c.all_ran.ensures c.if-all_ran.true)

pub returns : goal.returns
returns g c = λ told. inr (c.any_failed.ensures told)
