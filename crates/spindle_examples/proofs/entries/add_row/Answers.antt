-- One column more.
use Rattle.std.proofs.Common.{◌≡◌, ℕ, List, ◌+◌, ◌-◌, ◌*◌, ◌++◌, ◌∷◌, [], length, drop, map, ap, sym, ◌∙◌, arith, append_assoc}
use Rattle.std.proofs.lemmas.List.{take_all, length-drop}
use Rattle.spindle.specs.Pieces.{counted}
use Rattle.spindle.proofs.ListLaws.{counted_snoc, map_snoc}
use Rattle.spindle_examples.specs.Product.{dot}
use Rattle.spindle_examples.specs.Wrapping.{wrapped}
use Rattle.spindle_examples.proofs.entries.add_row.Goals as goal

pub loop-at-preserved : goal.loop-at-preserved
loop-at-preserved c =
    let at : ℕ = c.loop-at.at in
    let row : List ℕ = c.args.row.now in
    let columns : List ℕ = c.args.columns.now in
    let before : List ℕ = c.args.entries.now.items in
    let value : ℕ → ℕ = λ at. wrapped (dot row (drop (length row * at) columns)) in
    let begin : ℕ = length row * at in
    let here : 0 + at ≡ at = omega arith in
    let last : c.entry.result ≡ value at =
    c.entry.ensures ∙ ap (λ l. wrapped (dot row l)) (take_all (length columns - begin) (drop begin columns) (omega (arith, length-drop begin columns))) in
    c.in_ok-push.ensures.items
    ∙ ap (λ l. l ++ c.entry.result ∷ []) c.loop-at.invariant
    ∙ append_assoc before (map value (counted 0 at)) (c.entry.result ∷ [])
    ∙ ap (λ n. before ++ (map value (counted 0 at) ++ n ∷ [])) (last ∙ ap value (sym here))
    ∙ ap (λ l. before ++ l) (sym (map_snoc value (counted 0 at) (0 + at)))
    ∙ ap (λ l. before ++ map value l) (sym (counted_snoc 0 at))
