-- Numbers that are halved, or fail.
use Rattle.std.specs.Prelude.{◌≡◌, ℕ, ◌*◌, ◌+◌, ◌/◌, Result, Ok, Err}

-- the half of an even number, or the odd number itself
abbrev pub IsHalf : ℕ → Result ℕ ℕ → Type 0
IsHalf number (Ok half) = number ≡ 2 * half
IsHalf number (Err odd) = (odd ≡ number) × (number ≡ 2 * (number / 2) + 1)
