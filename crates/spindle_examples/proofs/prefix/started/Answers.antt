-- One run more, with its start, and the start of the next one.
use Rattle.std.proofs.Common.{rules, ◌≡◌, ℕ, List, Some, ◌+◌, ◌++◌, ◌∷◌, [], get_or, sum, take, ap, sym, ◌∙◌, arith}
use Rattle.std.proofs.lemmas.List.{take_more, get_or-map}
use Rattle.spindle.specs.Pieces.{joined}
use Rattle.spindle_examples.specs.Prefix.{asked_of, continued}
use Rattle.spindle_examples.specs.Wrapping.{wrapped}
use Rattle.spindle_examples.proofs.Prefixes.{continued_snoc, start_more}
use Rattle.spindle_examples.proofs.prefix.started.Goals as goal

pub loop-at-preserved : goal.loop-at-preserved
loop-at-preserved c =
    let runs : List (List ℕ) = c.args.runs.now in
    let at : ℕ = c.loop-at.at in
    let start : ℕ = c.loop-at.start in
    let run : List ℕ = c.index-runs-at.result in
    let before : ℕ = sum (joined (take at runs)) in
    let more : take (at + 1) runs ≡ take at runs ++ run ∷ [] =
    take_more runs at run (search rules) ∙ ap (λ x. take at runs ++ x ∷ []) (sym c.index-runs-at.is) in
    let cloned : c.in_ok-run.run' ≡ run = search rules in
    let f : List ℕ → ℕ = λ run. wrapped (sum run) in
    let none : before ≡ 0 + before = omega arith in
    let total : get_or c.args.totals.now at 0 ≡ wrapped (sum run) =
    ap (λ l. get_or l at 0) c.requires ∙ get_or-map f runs at run 0 (search rules) ∙ ap f (sym c.index-runs-at.is) in
    record {
      asked = c.in_ok-push.ensures.items
          ∙ ap (λ r. c.loop-at.asked.items ++ asked_of (Some start) r ∷ []) cloned
          ∙ ap (λ l. l ++ asked_of (Some start) run ∷ []) c.loop-at.invariant.asked
          ∙ ap (λ n. continued 0 (take at runs) ++ asked_of (Some n) run ∷ []) (c.loop-at.invariant.start ∙ ap wrapped none)
          ∙ sym (continued_snoc 0 (take at runs) run)
          ∙ ap (continued 0) (sym more);
      start = start_more (take at runs) run start (get_or c.args.totals.now at 0) c.loop-at.invariant.start total
          ∙ ap (λ l. wrapped (sum (joined l))) (sym more);
    }
