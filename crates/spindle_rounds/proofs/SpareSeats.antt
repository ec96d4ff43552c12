-- A list of one item.
use Rattle.std.proofs.Common.{zero, suc, ◌∷◌, [], All, arith}

pub all_of_one : {X : Type 0} (P : X → Type 0) (x : X) → P x → All P (x ∷ [])
all_of_one P x met zero d small = met
all_of_one P x met (suc k) d small = absurd (omega arith)
