-- One more pair.
use Rattle.std.proofs.Common.{◌≡◌, ◌≤◌, length, take, get_or, rules, arith, sym, subst, ◌∙◌, vec_capacity}
use Rattle.std.proofs.lemmas.List.{take_all}
use Rattle.std.proofs.lemmas.Slice.Zip.{length-zip, get_or-zip}
use Rattle.std.specs.List.{AllZip, zip}
use Rattle.spindle.proofs.KernelLists.{AllZip-next}
use Rattle.spindle.proofs.kernels.pairs.PairRunSource.compute_each.Goals as goal

pub push_reserved-requires : goal.push_reserved-requires
push_reserved-requires g c =
    let xs = c.as_slice-first.result.now in
    let ys = c.as_slice-second.result.now in
    let room : length (zip xs ys) ≤ vec_capacity c.args.outputs.now = rw (c.as_slice-first.ensures, c.as_slice-second.ensures) c.requires.room in
    omega (arith, room, length-zip xs ys, c.min-i-end.ensures, c.loop-i-test.true, c.loop-i.invariant.1, c.loop-i.invariant.2)

pub loop-i-preserved : goal.loop-i-preserved
loop-i-preserved g c =
    let xs = c.as_slice-first.result.now in
    let ys = c.as_slice-second.result.now in
    let i = c.loop-i.i in
    let pair : g.row.A.Denot × g.row.B.Denot = (c.index-first-i.result, c.index-second-i.result) in
    let found : get_or (zip xs ys) i pair ≡ (get_or xs i pair.0, get_or ys i pair.1) = get_or-zip xs ys i pair (search rules) (search rules) in
    let is : pair ≡ (get_or xs i pair.0, get_or ys i pair.1) = λ j. (c.index-first-i.is j, c.index-second-i.is j) in
    let step = AllZip-next (g.K.Kernel.computes c.args.kernel.now) (zip xs ys) i pair c.compute.result c.loop-i.outputs.items
    (omega (arith, length-zip xs ys, c.min-i-end.ensures, c.loop-i-test.true)) (is ∙ sym found) c.loop-i.invariant.0 c.compute.ensures in
    search rules

pub returns-clause-outputs : goal.returns-clause-outputs
returns-clause-outputs g c =
    let xs = c.as_slice-first.result.now in
    let ys = c.as_slice-second.result.now in
    let all : take c.loop-i.i (zip xs ys) ≡ zip xs ys = take_all c.loop-i.i (zip xs ys)
    (omega (arith, length-zip xs ys, c.min-i-end.ensures, c.loop-i-test.false)) in
    let same : zip xs ys ≡ zip c.args.self.now.first c.args.self.now.second = λ j. zip (c.as_slice-first.ensures j) (c.as_slice-second.ensures j) in
    subst (λ t. AllZip (g.K.Kernel.computes c.args.kernel.now) t c.loop-i.outputs.items) (all ∙ same) c.loop-i.invariant.0
