-- The pieces of a list as runs of it, and outputs that answer the first of them.
use Rattle.std.specs.Prelude.{ℕ, ◌+◌, ◌*◌, ◌/◌, ◌%◌, ◌-◌, ◌≤◌, List, Vec, length, vec_capacity, min, take, drop}
use Rattle.std.specs.List.{AllZip}

-- where the piece of a number begins,
-- of so many that a list is cut into: the first ones are longer by one
abbrev pub piece_start : (len pieces number : ℕ) → ℕ
piece_start len pieces number = len / pieces * number + min (len % pieces) number

-- the items before the piece of a number
abbrev pub items_before : {T : Type 0} → List T → (pieces number : ℕ) → List T
items_before items pieces number = take (piece_start (length items) pieces number) items

-- the piece of a number: it ends where the next one begins
abbrev pub piece_at : {T : Type 0} → List T → (pieces number : ℕ) → List T
piece_at items pieces number =
    let start = piece_start (length items) pieces number in
    take (piece_start (length items) pieces (number + 1) - start) (drop start items)

-- the outputs answer the items before the next piece, and there is room for all
abbrev pub HasAnswered : {A B Z : Type 0} → (A → B → Type 0)
    → List A → (pieces next : ℕ) → Vec B Z → Type 0
HasAnswered Meets items pieces next outputs = (next ≤ pieces)
    × AllZip Meets (items_before items pieces next) outputs.items
    × (length items ≤ vec_capacity outputs)
