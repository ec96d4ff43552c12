-- Numbers that follow each other.
use Rattle.std.specs.Prelude.{ℕ}

-- the numbers from `from` up to `to`, the end not included
pub record Span : Type 0 where
  pub from : ℕ
  pub to : ℕ
