-- The sum up to one more value.
use Rattle.std.proofs.Common.{rules, ◌≡◌, ℕ, List, ◌+◌, ◌++◌, ◌∷◌, [], get_or, sum, take, ap, sym, ◌∙◌, arith}
use Rattle.std.proofs.lemmas.List.{take_more}
use Rattle.std.proofs.lemmas.List.Sums.{sum_by_more}
use Rattle.spindle_examples.specs.Prefix.{running}
use Rattle.spindle_examples.specs.Wrapping.{wrapped}
use Rattle.spindle_examples.proofs.Prefixes.{running_snoc}
use Rattle.spindle_examples.proofs.Wrapped.{wrapped_part}
use Rattle.spindle_examples.proofs.sums.running_sums.Goals as goal

pub loop-value-preserved : goal.loop-value-preserved
loop-value-preserved c =
    let xs : List ℕ = c.args.values.now in
    let i : ℕ = c.loop-value.value-index in
    let x : ℕ = get_or xs i 0 in
    let start : ℕ = c.args.start in
    let before : ℕ = sum (take i xs) in
    let total = ap (λ n. wrapped (n + x)) c.loop-value.invariant.total ∙ wrapped_part (start + before) x in
    let more : start + before + x ≡ start + sum (take (i + 1) xs) = omega (arith, sum_by_more (λ k. k) xs i 0 c.loop-value-test.true) in
    record {
      sums = c.push_reserved.ensures.items
          ∙ ap (λ l. l ++ wrapped (c.loop-value.total + x) ∷ []) c.loop-value.invariant.sums
          ∙ ap (λ n. running start (take i xs) ++ n ∷ []) total
          ∙ sym (running_snoc start (take i xs) x)
          ∙ ap (running start) (sym (take_more xs i 0 c.loop-value-test.true));
      total = total ∙ ap wrapped more;
      count = search rules;
      room = search rules;
    }
