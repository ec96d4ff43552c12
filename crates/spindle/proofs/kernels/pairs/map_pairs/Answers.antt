-- There are no pairs, or those of both lists.
use Rattle.std.proofs.Common.{◌≡◌, List, IfOk, length, min, subst, ◌∙◌}
use Rattle.std.specs.List.{AllZip, zip}
use Rattle.spindle.proofs.Pairs.{zip-none}
use Rattle.spindle.proofs.kernels.pairs.map_pairs.Goals as goal

pub returns-then-len-eq0-clause-answer : goal.returns-then-len-eq0-clause-answer
returns-then-len-eq0-clause-answer g c =
    let xs : List g.row.A.Denot = c.args.first.items in
    let ys : List g.row.B.Denot = c.args.second.items in
    let first = c.len.ensures ∙ c.args.first.ok.0 in
    let second = c.len-2.ensures ∙ c.args.second.ok.0 in
    let n : c.min-len.result ≡ min (length xs) (length ys) = c.min-len.ensures ∙ (λ j. min (first j) (second j)) in
    rw (zip-none c.min-len.result xs ys n c.if-len-eq0.true, c.new.ensures.items) tt

pub returns-clause-answer : goal.returns-clause-answer
returns-clause-answer g c =
    let same = c.in_ok-pairs.ensures ∙ (λ j. zip (c.in_ok-first.ensures.items j) (c.in_ok-second.ensures.items j)) in
    subst (λ t. IfOk c.map_once.result (λ outputs. AllZip (g.K.Kernel.computes c.args.kernel.now) t outputs.items)) same c.map_once.ensures.answer
