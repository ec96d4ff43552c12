-- Numbers as 64 bits have them.
use Rattle.std.specs.Prelude.{ℕ, ◌%◌, ◌^◌}

-- the low 64 bits
abbrev pub wrapped : ℕ → ℕ
wrapped n = n % 2 ^ 64
