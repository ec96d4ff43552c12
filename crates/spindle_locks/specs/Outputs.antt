-- What places hold of pieces that were run.
use Rattle.std.specs.Prelude.{◌≡◌, ℕ, ◌+◌, List, [], Option, Some, None, take, map}
use Rattle.std.specs.List.{AllZip}
use Rattle.spindle_parts.specs.declared.cut.Piece.{Piece}
use Rattle.spindle_locks.specs.Done.{Done}
use Rattle.spindle_parts.specs.Pieces.{joined}

-- what a place holds is the piece of a number with these items, run
abbrev pub IsDoneOf : {A B : Type 0} → ℕ → List A → Option (Done A B) → Type 0
IsDoneOf number items None = ⊥
IsDoneOf number items (Some done) = (done.number ≡ number) × (done.inputs ≡ items)

-- the place holds the piece, finished: under its number, with its inputs
abbrev pub HoldsPiece : {A B : Type 0} → Piece A → Option (Done A B) → Type 0
HoldsPiece piece place = IsDoneOf piece.number piece.items.items place

-- the places hold the pieces, one by one
abbrev pub HoldAll : {A B : Type 0} → List (Piece A) → List (Option (Done A B)) → Type 0
HoldAll pieces places = AllZip HoldsPiece pieces places

-- the first k places hold their pieces, and the next one doesn't
abbrev pub IsFirstLost : {A B : Type 0} → List (Piece A) → List (Option (Done A B)) → ℕ → Type 0
IsFirstLost pieces places k =
    HoldAll (take k pieces) (take k places)
    × ¬ (HoldAll (take (k + 1) pieces) (take (k + 1) places))

-- the inputs of what a place holds
abbrev pub inputs_in : {A B : Type 0} → Option (Done A B) → List A
inputs_in None = []
inputs_in (Some done) = done.inputs

-- the inputs of what the places hold, in order
abbrev pub all_inputs_in : {A B : Type 0} → List (Option (Done A B)) → List A
all_inputs_in places = joined (map inputs_in places)
