-- The books balance by the words, since each word shows its places as they are counted.
use Rattle.std.proofs.Common.{ℕ, zero, suc, ◌≡◌, ◌%◌, ◌^◌, ◌<◌, arith, refl}
use Rattle.spindle_parts.specs.Ledger.{total}
use Rattle.spindle_parts.proofs.requests.books_balance.Goals as goal

-- two sums of which each part is counted alike
counted_alike : (f g : ℕ → ℕ) (n : ℕ) → ((i : ℕ) → i < n → f i ≡ g i % 2 ^ 64) → total f n % 2 ^ 64 ≡ total g n % 2 ^ 64
counted_alike f g zero h = refl
counted_alike f g (suc n) h = let part = h n (omega arith) in let before = counted_alike f g n (λ i lt. h i (omega arith)) in omega arith

pub returns : goal.returns
returns c = λ slots s r. record {
  by_trails = r.requests;
  by_words = let alike = counted_alike _ _ slots r.places in let is = r.requests in omega arith;
  credits = r.credits;
}
