-- One more pair.
use Rattle.std.proofs.Common.{◌≡◌, take, get_or, rules, arith, sym, ap, ◌∙◌}
use Rattle.std.proofs.lemmas.List.{take_all}
use Rattle.std.proofs.lemmas.List.Sums.{fold_more}
use Rattle.std.proofs.lemmas.Slice.Zip.{length-zip, get_or-zip}
use Rattle.std.specs.List.{zip}
use Rattle.spindle.specs.Folds.{total_of}
use Rattle.spindle.proofs.kernels.pairs.PairRunSource.total.Goals as goal

pub loop-i-preserved : goal.loop-i-preserved
loop-i-preserved g c =
    let C = g.C.Combine in
    let xs = c.as_slice-first.result.now in
    let ys = c.as_slice-second.result.now in
    let i = c.loop-i.i in
    let pair : g.row.A.Denot × g.row.B.Denot = (c.index-first-i.result, c.index-second-i.result) in
    let found : get_or (zip xs ys) i pair ≡ (get_or xs i pair.0, get_or ys i pair.1) = get_or-zip xs ys i pair (search rules) (search rules) in
    let is : pair ≡ (get_or xs i pair.0, get_or ys i pair.1) = λ j. (c.index-first-i.is j, c.index-second-i.is j) in
    let more = fold_more (λ total item. C.combine total (C.of item)) C.neutral (zip xs ys) i pair
    (omega (arith, length-zip xs ys, c.min-i-end.ensures, c.loop-i-test.true)) in
    let here = rw (← (is ∙ sym found)) at more in
    rw (c.combine-total.ensures, c.of.ensures, c.loop-i.invariant) (sym here)

pub returns : goal.returns
returns g c =
    let C = g.C.Combine in
    let xs = c.as_slice-first.result.now in
    let ys = c.as_slice-second.result.now in
    let all : take c.loop-i.i (zip xs ys) ≡ zip xs ys = take_all c.loop-i.i (zip xs ys)
    (omega (arith, length-zip xs ys, c.min-i-end.ensures, c.loop-i-test.false)) in
    let same : zip xs ys ≡ zip c.args.self.now.first c.args.self.now.second = λ j. zip (c.as_slice-first.ensures j) (c.as_slice-second.ensures j) in
    c.loop-i.invariant ∙ ap (total_of C.combine C.neutral C.of) (all ∙ same)
