-- One more place compared.
use Rattle.std.proofs.Common.{◌≡◌, ℕ, ◌<◌, List, length, take, get_or, sym, ◌∙◌, ◌&&◌, arith, rules}
use Rattle.std.proofs.lemmas.List.{take_more, length-take-le}
use Rattle.spindle_parts.proofs.ListRuns.{pointwise_snoc}
use Rattle.spindle_parts.proofs.lists.shared.are_equal.Goals as goal

pub loop-i-preserved : goal.loop-i-preserved
loop-i-preserved g c =
    let xs : List g.row.T.Denot = c.args.a.now in let ys : List g.row.T.Denot = c.args.b.now in let i : ℕ = c.loop-i.i in
    let h : i < length xs = search rules in
    let n : length xs ≡ length ys = search rules in
    let h' : i < length ys = omega (arith, n, h) in
    let x : g.row.T.Denot = c.index-a-i.result in let y : g.row.T.Denot = c.index-b-i.result in
    let l : length (take i xs) ≡ length (take i ys) = length-take-le i xs (omega (arith, h)) ∙ sym (length-take-le i ys (omega (arith, h'))) in
    let e : c.eq-equal.result ≡ g.T.PartialEq.eq (get_or xs i x) (get_or ys i y) = search rules in
    rw (take_more xs i x h, take_more ys i y h', pointwise_snoc g.T.PartialEq.eq (take i xs) (take i ys) (get_or xs i x) (get_or ys i y) l)
    (λ j. c.loop-i.invariant j && e j)
