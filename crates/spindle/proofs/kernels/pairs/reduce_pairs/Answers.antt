-- The total of no pairs, or of those of both lists.
use Rattle.std.proofs.Common.{◌≡◌, List, IfOk, length, min, ap, sym, subst, ◌∙◌}
use Rattle.spindle.specs.Folds.{total_of}
use Rattle.spindle.proofs.Pairs.{zip-none}
use Rattle.spindle.proofs.kernels.pairs.reduce_pairs.Goals as goal

pub returns-then-len-eq0-clause-answer : goal.returns-then-len-eq0-clause-answer
returns-then-len-eq0-clause-answer g c =
    let C = g.C.Combine in
    let xs : List g.row.A.Denot = c.args.first.now in
    let ys : List g.row.B.Denot = c.args.second.now in
    let n : c.min-len.result ≡ min (length xs) (length ys) = c.min-len.ensures ∙ (λ j. min (c.len.ensures j) (c.len-2.ensures j)) in
    c.neutral.ensures ∙ ap (total_of C.combine C.neutral C.of) (sym (zip-none c.min-len.result xs ys n c.if-len-eq0.true))

pub returns-clause-answer : goal.returns-clause-answer
returns-clause-answer g c = let C = g.C.Combine in
    subst (λ t. IfOk c.reduce_once.result (λ total. total ≡ total_of C.combine C.neutral C.of t)) c.in_ok-pairs.ensures c.reduce_once.ensures.answer
