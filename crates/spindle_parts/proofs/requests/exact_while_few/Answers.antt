-- While few requests stand, no word has wrapped: a part is at most the sum.
use Rattle.std.proofs.Common.{ℕ, zero, suc, ◌≡◌, ◌<◌, ◌≤◌, ap, arith}
use Rattle.spindle_parts.specs.Ledger.{total, unfilled}
use Rattle.spindle_parts.proofs.Parties.{by_equal}
use Rattle.spindle_parts.proofs.requests.exact_while_few.Goals as goal

-- a part is no more than the sum
part_le_total : (f : ℕ → ℕ) (n i : ℕ) → i < n → f i ≤ total f n
part_le_total f zero i lt = absurd (omega arith)
part_le_total f (suc n) i lt = by_equal i n (λ e. let same : f i ≡ f n = ap f e in omega arith) (λ ne. let a = part_le_total f n i (omega arith) in omega arith)

pub returns : goal.returns
returns c = λ slots s r few. record {
  places = λ i lt. let a = part_le_total (unfilled s.views) slots i lt in let b = r.places i lt in omega arith;
  requests = let a = r.requests in omega arith;
}
