-- How many numbers of a table are below a key.
use Rattle.std.specs.Prelude.{◌≡◌, ℕ, nat_lt, List}
use Rattle.std.specs.List.{count_by}
use Rattle.std.specs.List.Sorted.{IsNonDecreasing}

-- how many of the numbers are below the key
abbrev pub rank : List ℕ → (key : ℕ) → ℕ
rank numbers key = count_by (λ number. nat_lt number key) numbers

-- what is answered to a key and a table that ascends: the key's rank in it
abbrev pub IsRankOf : (table : List ℕ) → (key answer : ℕ) → Type 0
IsRankOf table key answer = IsNonDecreasing table → answer ≡ rank table key
