-- The kernel's table has the numbers in another order, in which they ascend.
use Rattle.std.proofs.Common.{◌≡◌, ℕ, List, Vec, Global, map, ◌∙◌}
use Rattle.std.specs.List.{AllZip}
use Rattle.std.specs.List.Sorted.{IsNonDecreasing}
use Rattle.std.proofs.lemmas.List.Sorted.{IsNonDecreasingBy-from_sort}
use Rattle.std.proofs.lemmas.Result.{IfOk-weaker}
use Rattle.spindle_examples.specs.Ranks.{rank, IsRankOf}
use Rattle.spindle_examples.proofs.Counts.{rank-permutation, ranked}
use Rattle.spindle_examples.proofs.ranks.ranks.Goals as goal

pub returns : goal.returns
returns g c =
    let keys : List ℕ = c.args.keys.items in
    let sorted : List ℕ = c.sort.new.self.items in
    let ascends : IsNonDecreasing sorted = IsNonDecreasingBy-from_sort (λ number. number) sorted c.in_ok-sort.ensures.sorted in
    let all : map (rank sorted) keys ≡ map (rank c.args.numbers.items) keys = λ i. map (λ key. rank-permutation c.args.numbers.items sorted c.sort.ensures.permutation key i) keys in
    IfOk-weaker _ (λ (ranks : Vec ℕ Global). AllZip (IsRankOf sorted) keys ranks.items) _
    (λ ranks answered. ranked sorted keys ranks.items ascends answered ∙ all)
    c.map.ensures.answer
