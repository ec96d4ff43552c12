-- The pairs of both lists, as far as both go, are the pairs of the runs.
use Rattle.std.proofs.Common.{◌≡◌, List, length, min, ◌∙◌}
use Rattle.std.specs.List.{zip}
use Rattle.spindle.proofs.Pairs.{zip-whole}
use Rattle.spindle.proofs.kernels.pairs.PairRun.new.Goals as goal

pub returns : goal.returns
returns g c =
    let xs : List g.row.A.Denot = c.args.first.now in
    let ys : List g.row.B.Denot = c.args.second.now in
    let n : c.min-len.result ≡ min (length xs) (length ys) = c.min-len.ensures ∙ (λ j. min (c.len.ensures j) (c.len-2.ensures j)) in
    (λ j. zip (c.in_ok-first.ensures j) (c.in_ok-second.ensures j)) ∙ zip-whole c.min-len.result xs ys n
