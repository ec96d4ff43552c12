-- A piece on its way, as contracts see it: given to a thread, and done.
use Rattle.std.specs.Prelude.{ℕ, List, [], Option, None, Some}

-- a piece that was handed out: its number and its items
pub record Given (A : Type 0) : Type 0 where
  pub number : ℕ
  pub inputs : List A

-- a piece that was run: its number, its inputs, and what the job answered to each
pub record Done (A B : Type 0) : Type 0 where
  pub number : ℕ
  pub inputs : List A
  pub outputs : List B

-- the inputs that a piece was run with, none where it wasn't found
abbrev pub inputs_of : {A : Type 0} → Option (List A) → List A
inputs_of None = []
inputs_of (Some inputs) = inputs
