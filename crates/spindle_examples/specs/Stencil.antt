-- A three-point stencil: each value becomes the mean of itself, twice, and of its two neighbours.
use Rattle.std.specs.Prelude.{◌≡◌, ℕ, zero, suc, ◌+◌, ◌*◌, ◌/◌, List, [], ◌∷◌, length, map, get_or}
use Rattle.spindle.specs.Pieces.{counted}
use Rattle.spindle.specs.Strip.{Strip}

-- the value before a place, 0 before the first
abbrev pub before : List ℕ → ℕ → ℕ
before values zero = 0
before values (suc at) = get_or values at 0

-- what the value at a place becomes; behind the last value stands 0
abbrev pub smooth_at : List ℕ → ℕ → ℕ
smooth_at values at = (before values at + 2 * get_or values at 0 + get_or values (at + 1) 0) / 4

-- one pass over all values
abbrev pub smooth : List ℕ → List ℕ
smooth values = map (smooth_at values) (counted 0 (length values))

-- so many passes
abbrev pub smooth_times : ℕ → List ℕ → List ℕ
smooth_times zero values = values
smooth_times (suc n) values = smooth (smooth_times n values)

-- values that stand between two others, after one pass
abbrev pub smooth_between : (before : ℕ) → List ℕ → (behind : ℕ) → List ℕ
smooth_between before [] behind = []
smooth_between before (here ∷ values) behind = (before + 2 * here + get_or values 0 behind) / 4 ∷ smooth_between here values behind

-- what a pass makes of a strip
abbrev pub IsSmoothed : (old new : Strip ℕ (Unit {0})) → Type 0
IsSmoothed old new = new.items.items ≡ smooth_between old.before old.items.items old.behind
