-- The entries of both halves.
use Rattle.std.proofs.Common.{◌≡◌, ◌++◌, ◌∙◌, ℕ, List, Vec, Global, map, ap, sym, rules}
use Rattle.std.proofs.lemmas.List.{map-append}
use Rattle.spindle_examples.specs.Product.{product}
use Rattle.spindle_examples.proofs.Products.{product_append}
use Rattle.spindle_examples.proofs.product.MultiplyDivision.join.Goals as goal

pub returns : goal.returns
returns c = λ rows xs ys whole f s.
    let items : Vec ℕ Global → List ℕ = λ row. row.items in
    let columns : List ℕ = c.args.self.now.columns.now in
    let first : c.in_ok-entries.entries.items ≡ product (map items xs) columns = search rules in
    let second : c.in_ok-others.others.items ≡ product (map items ys) columns = search rules in
    let both : c.append.new.self.items ≡ c.in_ok-entries.entries.items ++ c.in_ok-others.others.items = search rules in
    both ∙ (λ i. first i ++ second i) ∙ sym (product_append (map items xs) (map items ys) columns)
    ∙ ap (λ l. product l columns) (sym (map-append items xs ys)) ∙ ap (λ l. product (map items l) columns) (sym whole)
