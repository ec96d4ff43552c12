-- The numbers below the key are those before the place that the search finds.
use Rattle.std.proofs.Common.{◌≡◌, ℕ, Bool, List, ltb, ap, sym, subst, ◌∙◌, rules}
use Rattle.std.specs.List.Sorted.{IsNonDecreasing}
use Rattle.std.proofs.lemmas.List.Sorted.{IsPartitionPoint-from_clause, IsPartitionedBy-ltb}
use Rattle.spindle_examples.specs.Ranks.{rank}
use Rattle.spindle_examples.proofs.Counts.{count_to}
use Rattle.spindle_examples.proofs.ranks.RankKernel.compute.Goals as goal

pub returns : goal.returns
returns c = λ ascends.
    let key : ℕ = c.args.key.now in
    let table : List ℕ = c.as_slice.result.now in
    let same : table ≡ c.args.self.now.table.items = c.as_slice.ensures.value in
    let below : ℕ → Bool = λ number. ltb number key in
    let parted = IsPartitionedBy-ltb (λ number. number) table key (subst IsNonDecreasing (sym same) ascends) in
    let point = IsPartitionPoint-from_clause below table c.partition_point.result c.partition_point.ensures.partitioned parted (λ a r f k. search rules) in
    sym (count_to below table c.partition_point.result c.partition_point.ensures.bound point) ∙ ap (λ numbers. rank numbers key) same
