-- Each sum.
use Rattle.std.proofs.Common.{rules}
use Rattle.spindle_examples.proofs.SumLists.{sums_joined}
use Rattle.spindle_examples.proofs.runs.RunsDivision.join.Goals as goal

pub returns : goal.returns
returns c = λ all xs ys e f s. sums_joined all xs ys c.in_ok-first.first c.in_ok-second.second _ e (search rules) (search rules) (search rules)
