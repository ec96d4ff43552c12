-- A piece as a slot holds it, what answers it, and the items of a round over a list before they are there.
use Rattle.std.specs.Prelude.{◌≡◌, ℕ, List, [], ◌∷◌, Option, None, Some, length, take, drop}
use Rattle.std.specs.List.{AllZip}
use Rattle.spindle_locks.specs.declared.pieces.items.Items.{Items}
use Rattle.spindle_locks.specs.declared.pieces.items.Items.TheVariants.{Each, Runs}
use Rattle.spindle_locks.specs.declared.pieces.slot_piece.OneOr.{OneOr}
use Rattle.spindle_locks.specs.declared.pieces.slot_piece.OneOr.TheVariants.{One, Many}
use Rattle.spindle_locks.specs.PieceRuns.{piece_at}

-- one item or many, as a list
abbrev pub all_of : {A : Type 0} → OneOr A (List A) → List A
all_of (One x) = x ∷ []
all_of (Many xs) = xs

-- the run that a block holds, if it holds one
abbrev pub run_in : {A : Type 0} → Option (List A) → List A
run_in None = []
run_in (Some run) = run

-- an answer is right where it relates to the items of the piece, one by one
abbrev pub IsAnswerTo : {A B : Type 0} → (A → B → Type 0) → OneOr A (List A) → OneOr B (List B) → Type 0
IsAnswerTo Meets piece answer = AllZip Meets (all_of piece) (all_of answer)

-- the piece of a number, of so many pieces of these items
abbrev pub IsPieceOf : {A : Type 0} → List A → (pieces : ℕ) → ℕ → OneOr A (List A) → Type 0
IsPieceOf items pieces number piece = all_of piece ≡ piece_at items pieces number

-- it is the item of a number
abbrev pub IsItemOf : {A M : Type 0} → List A → ℕ → OneOr A M → Type 0
IsItemOf {A} items number piece = (x : A) × (piece ≡ One x) × (take 1 (drop number items) ≡ x ∷ [])

-- the items of a round
abbrev pub all_items : {A : Type 0} → Items A → List A
all_items (Each items) = items.items
all_items (Runs pieces) = pieces.items

-- how many pieces they are cut into
abbrev pub pieces_of : {A : Type 0} → Items A → ℕ
pieces_of (Each items) = length items.items
pieces_of (Runs pieces) = pieces.count
