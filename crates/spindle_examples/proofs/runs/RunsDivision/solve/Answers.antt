-- One value more.
use Rattle.std.proofs.Common.{◌∙◌, ◌++◌, ◌∷◌, [], ℕ, ℤ, pos, to_z, of_z, to_z-of_z, w64, List, take, get_or, ap, sym, rules}
use Rattle.std.proofs.lemmas.List.{take_more}
use Rattle.spindle_examples.proofs.runs.RunsDivision.solve.Goals as goal

pub loop-item-preserved : goal.loop-item-preserved
loop-item-preserved c = let items : List ℤ = c.as_slice-item-items.result.now in let i : ℕ = c.loop-item.item-index in let x : ℤ = get_or items i (pos 0) in
    c.join-sums.ensures _ (take i items) (to_z w64 (of_z w64 x) ∷ []) (take_more items i (pos 0) c.loop-item-test.true
    ∙ ap (λ v. take i items ++ v ∷ []) (sym (to_z-of_z {w = w64} (search rules)))) c.loop-item.invariant (search rules)
