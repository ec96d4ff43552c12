-- One more answer.
use Rattle.std.proofs.Common.{◌≡◌, List, [], ◌∷◌, ◌++◌, Option, subst, sym, rules}
use Rattle.std.specs.List.{AllZip}
use Rattle.spindle.specs.Divisions.{Allows}
use Rattle.spindle_parts.proofs.ListLaws.{all_zip_snoc}
use Rattle.spindle.proofs.kernels.dividing.answers_of.Goals as goal

pub loop-branch-preserved : goal.loop-branch-preserved
loop-branch-preserved g c =
    let allows = Allows (g.K.Division.solves c.args.kernel.now) (g.K.Division.splits c.args.kernel.now) in
    let old : List (Option g.row.K-Answer.Denot) = c.loop-branch.answers.items in
    let pushed : c.push.new.self.items ≡ old ++ c.answer.result ∷ [] = search rules in
    subst (AllZip allows (c.loop-branch.yielded ++ c.in-Some.branch ∷ [])) (sym pushed)
    (all_zip_snoc allows c.loop-branch.yielded old c.in-Some.branch c.answer.result c.loop-branch.invariant c.answer.ensures)
