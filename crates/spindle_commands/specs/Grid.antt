-- Numbers that grow, and what is told of them.
use Rattle.std.specs.Prelude.{ℕ, ◌+◌, ◌≤◌, List, min, All}
use Rattle.std.specs.List.{Contains}

-- one more, where 32 bits hold it
abbrev pub one_more : ℕ → ℕ
one_more x = min (x + 1) 4294967295

-- one of the numbers, and no other is less
abbrev pub IsLeast : ℕ → List ℕ → Type 0
IsLeast x numbers = Contains numbers x × All (λ y. x ≤ y) numbers

-- one of the numbers, and no other is greater
abbrev pub IsGreatest : ℕ → List ℕ → Type 0
IsGreatest x numbers = Contains numbers x × All (λ y. y ≤ x) numbers
