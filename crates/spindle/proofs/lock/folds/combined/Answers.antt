-- One more total.
use Rattle.std.proofs.Common.{ap, sym, ◌∙◌, [], ◌∷◌, map}
use Rattle.std.specs.Prelude.{fold}
use Rattle.std.proofs.lemmas.List.Sums.{fold-append}
use Rattle.spindle_parts.proofs.ListLaws.{map_snoc}
use Rattle.spindle.specs.declared.lock.folds.Part.{Part}
use Rattle.spindle.proofs.lock.folds.combined.Goals as goal

pub loop-part-preserved : goal.loop-part-preserved
loop-part-preserved g c =
    let C = g.C.Combine in
    let total : Part g.row.S.Denot g.row.C-Total.Denot → g.row.C-Total.Denot = λ part. part.total in
    let before = map total c.loop-part.yielded in
    let last = total c.in-Some.part ∷ [] in
    c.combine-all.ensures
    ∙ ap (λ t. C.combine t (total c.in-Some.part)) c.loop-part.invariant
    ∙ sym (fold-append C.combine C.neutral before last)
    ∙ ap (fold C.combine C.neutral) (sym (map_snoc total c.loop-part.yielded c.in-Some.part))
