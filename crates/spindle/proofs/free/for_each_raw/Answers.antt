-- What was collected is what the closure answers at each number.
use Rattle.std.proofs.Common.{ap, sym, ◌∙◌, rules, of_calls}
use Rattle.std.proofs.lemmas.Slice.Zip.{AllZip-long}
use Rattle.rayon.proofs.ListFacts.{AllZip-weaken}
use Rattle.rayon.specs.Lists.{range_start, range_end, min_len_base}
use Rattle.rayon.specs.Numbers.{nat_range}
use Rattle.spindle.proofs.FreeLists.{nat_range-counted}
use Rattle.spindle_parts.proofs.Deals.{length-counted}
use Rattle.spindle.proofs.free.for_each_raw.Goals as goal

pub returns-clause-answer : goal.returns-clause-answer
returns-clause-answer g c =
    let h = c.in_ok-collect.ensures in
    let range = c.into_par_iter.ensures in
    let base = ap min_len_base c.map.ensures.base ∙ c.with_min_len-numbers.ensures.base in
    let source = h.1.1 ∙ ap (λ it. nat_range (range_start it) (range_end it)) base
    ∙ nat_range-counted _ _ _ range.0 range.1 in
    rw (h.2, sym source) (AllZip-weaken _ _ (λ x y p. search of_calls) h.1.0 h.0 h.1.2)

pub returns-clause-length : goal.returns-clause-length
returns-clause-length g c = search (AllZip-long _ _ _ (returns-clause-answer g c), length-counted 0 c.args.n_jobs, rules)

pub returns-in_err-collect-clause-empty : goal.returns-in_err-collect-clause-empty
returns-in_err-collect-clause-empty g c = λ none. absurd (c.if-n_jobs-eq0.false none)
