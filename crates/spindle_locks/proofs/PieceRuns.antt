-- The pieces of a list as runs of it, one behind the other.
use Rattle.std.proofs.Common.{◌≡◌, ℕ, ◌+◌, ◌-◌, ◌<◌, ◌≤◌, List, [], ◌++◌, length, take, ap, ◌∙◌, subst, arith, length-append, Vec, vec_len, vec_capacity}
use Rattle.std.proofs.lemmas.List.{length-take, take_all}
use Rattle.std.proofs.lemmas.Nat.{div-add-mod'}
use Rattle.std.proofs.Math.Nat.{mod-lt}
use Rattle.std.proofs.Math.Seq.{take-add}
use Rattle.std.proofs.lemmas.Slice.Zip.{AllZip-long}
use Rattle.std.specs.List.{AllZip}
use Rattle.spindle_locks.specs.Rounds.{AddsAnswers}
use Rattle.spindle_locks.proofs.Outputs.{AllZip-AddsAnswers}
use Rattle.spindle_locks.specs.PieceRuns.{piece_start, items_before, piece_at, HasAnswered}

-- nothing stands before the first piece
pub before_first : {A : Type 0} (items : List A) (pieces : ℕ) → items_before items pieces 0 ≡ []
before_first items pieces = let zero : piece_start (length items) pieces 0 ≡ 0 = omega arith in ap (λ (n : ℕ). take n items) zero

-- all items stand before the end of the last piece
pub before_end : {A : Type 0} (items : List A) (pieces : ℕ) → 0 < pieces → items_before items pieces pieces ≡ items
before_end items pieces some =
    let len = length items in
    take_all (piece_start len pieces pieces) items (omega (arith, div-add-mod' len pieces, mod-lt len some))

-- a piece begins where the one before it ends
start_next : (len pieces number : ℕ) → piece_start len pieces number ≤ piece_start len pieces (number + 1)
start_next len pieces number = omega arith

-- the items before the next piece are those before this one and this one's
pub items_more : {A : Type 0} (items : List A) (pieces number : ℕ) → items_before items pieces
    (number + 1) ≡ items_before items pieces number ++ piece_at items pieces number
items_more items pieces number =
    let from = piece_start (length items) pieces number in
    let to = piece_start (length items) pieces (number + 1) in
    let e : to ≡ from + (to - from) = omega (arith, start_next (length items) pieces number) in
    ap (λ n. take n items) e ∙ take-add from (to - from) items

-- where outputs answer the items before a piece, and there is room for all, there is room for the piece's
pub next_fits : {A B : Type 0} (R : A → B → Type 0) (items : List A) (pieces number : ℕ) (outputs : List B) → number < pieces → AllZip R
    (items_before items pieces number) outputs → length outputs + length (piece_at items pieces number) ≤ length items
next_fits R items pieces number outputs h z =
    let more = items_before items pieces (number + 1) in
    let whole : length more ≤ length items = omega (arith, length-take (piece_start (length items) pieces (number + 1)) items) in
    omega (
      arith,
      AllZip-long R (items_before items pieces number) outputs z,
      length-append (items_before items pieces number) (piece_at items pieces number),
      ap length (items_more items pieces number),
      whole,
    )

-- where the outputs answer the items before a piece, there is room for the piece's
pub room_for_next : {A B Z : Type 0} (R : A → B → Type 0) (items run : List A) (pieces number : ℕ) (outputs : Vec B Z) → number < pieces
    → run ≡ piece_at items pieces number → HasAnswered R items pieces number outputs → vec_len outputs + length run ≤ vec_capacity outputs
room_for_next R items run pieces number outputs h is answered =
    omega (arith, next_fits R items pieces number outputs.items h answered.1, ap length is, answered.2)

-- and once it has run, they answer its items too
pub answered_next : {A B Z : Type 0} (R : A → B → Type 0) (items run : List A) (pieces number : ℕ) (old new : Vec B Z) → number < pieces
    → run ≡ piece_at items pieces number → HasAnswered R items pieces number old → AddsAnswers R run old.items new.items
    → vec_capacity old ≤ vec_capacity new → HasAnswered R items pieces (number + 1) new
answered_next R items run pieces number old new h is answered adds room =
    let more = AllZip-AddsAnswers R (items_before items pieces number) run old.items new.items answered.1 adds in
    (omega (arith, h), rw (items_more items pieces number, ← is) more, omega (arith, room, answered.2))

-- and where all pieces are answered, all items are
pub answered_all : {A B Z : Type 0} (R : A → B → Type 0) (items : List A) (pieces next : ℕ) (outputs : Vec B Z) → 0 < pieces → pieces ≤ next
    → HasAnswered R items pieces next outputs → AllZip R items outputs.items
answered_all R items pieces next outputs some end answered =
    let last : next ≡ pieces = omega (arith, end, answered.0) in
    subst (λ xs. AllZip R xs outputs.items) (ap (λ n. items_before items pieces n) last ∙ before_end items pieces some) answered.1
