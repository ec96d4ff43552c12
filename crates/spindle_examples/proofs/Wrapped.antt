-- Sums and products in 64 bits.
use Rattle.std.proofs.Common.{◌≡◌, ℕ, ◌+◌, arith}
use Rattle.spindle_examples.specs.Wrapping.{wrapped}

-- 64 bits of a sum are those of the sum with 64 bits of a part
pub wrapped_part : (a b : ℕ) → wrapped (wrapped a + b) ≡ wrapped (a + b)
wrapped_part a b = omega arith

-- and of the sum with 64 bits of both
pub wrapped_parts : (a b : ℕ) → wrapped (wrapped a + wrapped b) ≡ wrapped (a + b)
wrapped_parts a b = omega arith
