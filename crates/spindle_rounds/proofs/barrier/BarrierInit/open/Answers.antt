-- A fresh table meets its rule.
use Rattle.std.proofs.Common.{ap, ◌≡◌, ◌∙◌, get_or, ℕ, zero, suc, List, [], replicate, refl}
use Rattle.spindle_rounds.proofs.RoundOpening.{opens}
use Rattle.spindle_rounds.proofs.barrier.BarrierInit.open.Goals as goal
use Rattle.spindle_rounds.specs.Words.{words_of}

zero_at : (n i : ℕ) → let z : ℕ = 0 in get_or (replicate n z) i z ≡ z
zero_at zero i = refl
zero_at (suc n) zero = refl
zero_at (suc n) (suc i) = zero_at n i

pub new-requires : goal.new-requires
new-requires g c = let e = c.as_slice.ensures.value in let f = c.in_ok-words.ensures in record {
  run = [];
  by_run = opens g.D.SlotContents.discipline g.met.D.SlotContents.lawful c.args.threads _ _ (c.as_slice.ensures.len ∙ f.len)
      (λ i. ap (λ (l : List ℕ). get_or l i 0) (e ∙ f.items_if_clones_equal (λ y z. z)) ∙ zero_at (words_of c.args.threads) i) c.in_ok-vacant.ensures.starts;
}
