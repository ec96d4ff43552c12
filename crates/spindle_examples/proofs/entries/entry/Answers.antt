-- One place more; at the end the shorter one is through.
use Rattle.std.proofs.Common.{ℕ, List, ◌+◌, ◌*◌, ◌<◌, length, get_or, take, ap, sym, ◌∙◌, arith}
use Rattle.spindle_examples.specs.Product.{dot}
use Rattle.spindle_examples.specs.Wrapping.{wrapped}
use Rattle.spindle_examples.proofs.Wrapped.{wrapped_parts}
use Rattle.spindle_examples.proofs.Products.{dot_more, dot_whole}
use Rattle.spindle_examples.proofs.entries.entry.Goals as goal

pub loop-at-preserved : goal.loop-at-preserved
loop-at-preserved c =
    let row : List ℕ = c.args.row.now in
    let column : List ℕ = c.args.column.now in
    let at : ℕ = c.loop-at.at in
    let here : at < length row = omega (arith, c.loop-at-test.true, c.min-at-end.ensures) in
    let there : at < length column = omega (arith, c.loop-at-test.true, c.min-at-end.ensures) in
    let last : ℕ = get_or row at 0 * get_or column at 0 in
    ap (λ n. wrapped (n + wrapped last)) c.loop-at.invariant
    ∙ wrapped_parts (dot (take at row) (take at column)) last
    ∙ ap wrapped (sym (dot_more row column at here there))

pub returns : goal.returns
returns c =
    c.loop-at.invariant
    ∙ ap wrapped (dot_whole c.args.row.now c.args.column.now c.loop-at.at (omega (arith, c.loop-at-test.false, c.min-at-end.ensures)))
