-- Who reads a number knows it, and that the round can't be stopped.
use Rattle.std.proofs.Common.{◌≢◌, ◌≤◌, arith, ◌∙◌, subst, sym, IsTrue}
use Rattle.spindle_rounds.specs.RoundConditions.{IsFreeInside, MayClaim}
use Rattle.spindle_rounds.proofs.RoundWords.{by_equal}
use Rattle.spindle_rounds.proofs.RoundClients.{number_learned}
use Rattle.spindle_rounds.proofs.RoundOnward.{may_claim}
use Rattle.spindle_locks_tests.proofs.round.scripts.learn.Goals as goal
use Rattle.spindle_rounds.specs.Words.{most_jobs}

pub returns-clause-free : goal.returns-clause-free
returns-clause-free c = let free = subst (λ s. IsFreeInside s.me.0) (sym c.seat.ensures.value) c.requires.free in let found = c.published.result in
    let w = c.published.new.seat.me in
    by_equal found 2 (λ b. IsTrue b → MayClaim w.0) (λ e _. let some : found ≢ 0 = (λ z. absurd (omega arith)) in
    let n = number_learned c.seat.result.now.me w free.0 found free.1 c.published.ensures.step some in
    let few : found ≤ most_jobs = omega arith in let f = free.3 in let a = n.3.0 in let b = n.3.1 in
    may_claim _ _ w.0 n.0 (n.2 ∙ free.2) (omega arith) (n.1 few)) (λ _ never. absurd cc)
