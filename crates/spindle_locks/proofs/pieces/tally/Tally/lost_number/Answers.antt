-- The number that was noted as lost, or the less of it and the first that was skipped.
use Rattle.std.proofs.Common.{◌≡◌, ◌⊎◌, [], true, arith}
use Rattle.std.proofs.lemmas.Grind.{common_steps}
use Rattle.spindle_locks.proofs.Reports.{least_early}
use Rattle.spindle_locks.proofs.pieces.tally.Tally.lost_number.Goals as goal

pub returns-then-self : goal.returns-then-self
returns-then-self g c = let t = c.args.self.now in let none : (t.skipped.items ≡ []) ⊎ (t.failed ≡ true) = grind (arith, common_steps) in
    least_early t.failed t.lost t.skipped.items none
