-- The second round begins where the first has ended.
use Rattle.std.proofs.Common.{ℕ, ◌∙◌, ◌∷◌, false, arith, vec_len}
use Rattle.spindle_locks.specs.Rounds.{job_count}
use Rattle.spindle_rounds.specs.RoundShown.{Showed}
use Rattle.spindle_rounds.specs.RoundSteps.{round_of}
use Rattle.spindle_tests.proofs.callers.two_rounds.Goals as goal

pub returns-clause-rounds : goal.returns-clause-rounds
returns-clause-rounds g c =
    let m : ℕ = job_count (vec_len c.args.second) c.args.jobs in
    let p = c.in_ok-by_first.ensures.trail.0 (omega arith) in
    let q = c.in_ok-by_second.ensures.trail.0 (omega arith) in
    q.0 ∙ (λ i. Showed (round_of (p.1 i)) m false ∷ p.0 i)
