-- What comes of a round over numbers of which one fails.
use Rattle.std.specs.Prelude.{◌≡◌, ◌↔◌, ◌⊎◌, ℕ, Bool, [], ◌++◌, IsTrue, IsPermutation}
use Rattle.std.specs.List.{Any, Contains}
use Rattle.std.specs.List.Sorted.{IsStrictlyIncreasing}
use Rattle.spindle_parts.specs.Pieces.{counted}
use Rattle.spindle_locks.specs.PieceRuns.{piece_at}
use Rattle.spindle_commands.specs.declared.faults.Outcome.{Outcome}

-- a number that stands before the one that fails is told as failed just where it is that one
abbrev pub Tells : (ℕ × ℕ) → Bool → Type 0
Tells item failed = IsTrue failed ↔ (item.0 ≡ item.1)

-- of so many pieces of the numbers below a count, the one of this number has the bad one
abbrev pub HasBad : (count pieces bad number : ℕ) → Type 0
HasBad count pieces bad number = Contains (piece_at (counted 0 count) pieces number) bad

-- what is told of a round in so many pieces over the numbers below a count, of which one is bad
pub record IsOutcome (count pieces bad : ℕ) (outcome : Outcome) : Type 0 where
  -- the numbers of both lists ascend, and together they are every piece's number once
  pub ran : IsStrictlyIncreasing outcome.ran.items
  pub skipped : IsStrictlyIncreasing outcome.skipped.items
  pub each_once : IsPermutation (counted 0 pieces) (outcome.ran.items ++ outcome.skipped.items)
  -- where none was skipped every piece ran
  pub whole : outcome.skipped.items ≡ [] → outcome.ran.items ≡ counted 0 pieces
  -- where a piece was skipped, the one with the bad number ran
  pub stopped : (outcome.skipped.items ≡ []) ⊎ Any (HasBad count pieces bad) outcome.ran.items
