-- One row more.
use Rattle.std.proofs.Common.{ℕ, List, Vec, Global, ◌≡◌, ◌+◌, ◌++◌, ◌∷◌, [], map, take, ap, sym, ◌∙◌}
use Rattle.std.proofs.lemmas.List.{take_more}
use Rattle.spindle.proofs.ListLaws.{map_snoc}
use Rattle.spindle_examples.specs.Product.{product, row_of}
use Rattle.spindle_examples.proofs.Products.{product_snoc}
use Rattle.spindle_examples.proofs.entries.filled.Goals as goal

pub loop-row-preserved : goal.loop-row-preserved
loop-row-preserved c =
    let items : Vec ℕ Global → List ℕ = λ row. row.items in
    let rows : List (Vec ℕ Global) = c.args.rows.now in
    let columns : List ℕ = c.args.columns.now in
    let row : Vec ℕ Global = c.row-item.result in
    let before : List (Vec ℕ Global) = take c.loop-row.row-index rows in
    let more : take (c.loop-row.row-index + 1) rows ≡ before ++ row ∷ [] =
    take_more rows c.loop-row.row-index row c.loop-row-test.true ∙ ap (λ r. before ++ r ∷ []) (sym c.row-item.is) in
    c.in_ok-add_row.ensures
    ∙ ap (λ l. l ++ row_of columns c.as_slice.result.now) c.loop-row.invariant
    ∙ ap (λ r. product (map items before) columns ++ row_of columns r) c.as_slice.ensures.value
    ∙ sym (product_snoc (map items before) row.items columns)
    ∙ ap (λ l. product l columns) (sym (map_snoc items before row))
    ∙ ap (λ l. product (map items l) columns) (sym more)
