-- What stands in the places of a tray.
use Rattle.std.specs.Prelude.{◌≡◌, ℕ, ◌+◌, ◌<◌, List, Option, Some, None, length, map, take}
use Rattle.std.specs.Prelude.{option_and_then, slice_get}
use Rattle.spindle_parts.specs.Pieces.{counted, dealt}
use Rattle.spindle_locks.specs.Done.{Given, Done}
use Rattle.spindle_locks.specs.Outputs.{IsDoneOf}
use Rattle.spindle_locks.specs.PieceRuns.{piece_at}
use Rattle.spindle_locks.specs.declared.pieces.place.Place.{Place}
use Rattle.spindle_locks.specs.declared.pieces.place.Place.TheVariants.{Waits, Back}

-- what was brought back to a place
abbrev pub brought_to : {A B : Type 0} → Place (Given A) (Done A B) → Option (Done A B)
brought_to (Back done) = Some done
brought_to _ = None

-- the piece of a number waits
abbrev pub waiting : {A B : Type 0}
    → List A → (pieces number : ℕ) → Place (Given A) (Done A B)
waiting items pieces number =
    Waits (record { number = number; inputs = piece_at items pieces number })

-- the pieces that a thread number is dealt, of so many, wait in the first places
abbrev pub AwaitsDealt : {A B : Type 0}
    → List A → (pieces threads thread : ℕ) → List (Place (Given A) (Done A B)) → Type 0
AwaitsDealt items pieces threads thread places =
    let own = dealt (counted 0 pieces) threads thread in
    take (length own) places ≡ map (waiting items pieces) own

-- a place holds the piece of a number, run
abbrev pub IsDoneAt : {A B : Type 0}
    → List A → (pieces number at : ℕ) → List (Place (Given A) (Done A B)) → Type 0
IsDoneAt items pieces number at places = IsDoneOf number (piece_at items pieces number)
    (option_and_then brought_to (slice_get places at))

-- so many places, from one on, hold the pieces of as many numbers, from one on, run
abbrev pub HoldsDone : {A B : Type 0}
    → List A → (pieces number from count : ℕ) → List (Place (Given A) (Done A B)) → Type 0
HoldsDone items pieces number from count places =
    (i : ℕ) → i < count → IsDoneAt items pieces (number + i) (from + i) places

-- k is the first of these numbers whose place doesn't hold its piece, run
abbrev pub IsFirstMissing : {A B : Type 0}
    → List A → (pieces number from count : ℕ) → List (Place (Given A) (Done A B)) → ℕ → Type 0
IsFirstMissing items pieces number from count places k =
    (i : ℕ) × (i < count) × (k ≡ number + i) × HoldsDone items pieces number from i places
    × ¬ (IsDoneAt items pieces (number + i) (from + i) places)
