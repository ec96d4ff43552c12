-- Values that a pass of the solver leaves as they are.
use Rattle.std.specs.Prelude.{◌≡◌, ℕ, ◌+◌, ◌*◌, ◌/◌, List}
use Rattle.spindle.specs.Passes.{passed}

-- with this value before and behind all, each is the mean of itself, twice, and of its neighbours
abbrev pub IsSolved : (edge : ℕ) → List ℕ → Type 0
IsSolved edge values = passed (λ before here behind. (before + 2 * here + behind) / 4) edge values edge ≡ values
