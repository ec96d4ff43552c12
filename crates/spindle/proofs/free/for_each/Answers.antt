-- What was collected is what the closure answers at each item.
use Rattle.std.proofs.Common.{ap, sym, ◌∙◌, rules, of_calls}
use Rattle.std.proofs.lemmas.Slice.Zip.{AllZip-long}
use Rattle.rayon.proofs.ListFacts.{AllZip-weaken}
use Rattle.rayon.specs.Lists.{vec_items, min_len_base}
use Rattle.spindle.proofs.Jobs.{not_empty}
use Rattle.spindle.proofs.free.for_each.Goals as goal

pub returns-clause-answer : goal.returns-clause-answer
returns-clause-answer g c =
    let h = c.in_ok-collect.ensures in
    let source = h.1.1 ∙ ap (λ it. vec_items (min_len_base it)) c.map.ensures.base
    ∙ ap vec_items c.with_min_len-items.ensures.base ∙ c.into_par_iter.ensures in
    rw (h.2, sym source) (AllZip-weaken _ _ (λ x y p. search of_calls) h.1.0 h.0 h.1.2)

pub returns-clause-length : goal.returns-clause-length
returns-clause-length g c = search (AllZip-long _ _ _ (returns-clause-answer g c), rules)

pub returns-in_err-collect-clause-empty : goal.returns-in_err-collect-clause-empty
returns-in_err-collect-clause-empty g c = not_empty _ c.if-is_empty.ensures
