-- What the leader did last with a slot, once it has done one thing more.
use Rattle.std.proofs.Common.{◌≡◌, ◌≢◌, ℕ, Bool, eq-eqb, ne_eqb, List, ◌∷◌, sym, refl, ap}
use Rattle.std.proofs.Common.{if◌then◌else◌}
use Rattle.spindle_rounds.specs.declared.round_table.view.Spot.{Spot}
use Rattle.spindle_rounds.specs.RoundSlots.{spot_at}

-- of the slot itself it is the thing done
pub spot_here : {N : Type 0} (b : List (ℕ × Spot N)) (k : ℕ) (p : Spot N)
    → spot_at ((k, p) ∷ b) k ≡ p
spot_here b k p = ap (λ (z : Bool). if z then p else spot_at b k) (eq-eqb k k refl)

-- of any other slot it is what it was before
pub spot_else : {N : Type 0} (b : List (ℕ × Spot N)) (k j : ℕ) (p : Spot N) → j ≢ k
    → spot_at ((k, p) ∷ b) j ≡ spot_at b j
spot_else b k j p n = ap (λ (z : Bool). if z then p else spot_at b j) (ne_eqb k j (λ e. n (sym e)))
