-- Rounds in place: a list in chunks, and the room for them.
use Rattle.std.specs.Prelude.{◌≡◌, ℕ, zero, suc, ◌-◌, ◌+◌, ◌/◌, ◌≤◌, List, [], ◌∷◌, ◌++◌, length}
use Rattle.std.specs.List.{AllZip}
use Rattle.spindle_locks.specs.PieceRuns.{piece_at}

-- the last n pieces of so many, the last one first
unfoldable pub last_pieces : {T : Type 0} → List T → (pieces n : ℕ) → List (List T)
last_pieces items pieces zero = []
last_pieces items pieces (suc n) = last_pieces items pieces n ++ piece_at items pieces (pieces - suc n) ∷ []

-- each has room for so many items
unfoldable pub HaveCapacity : ℕ → List ℕ → Type 0
HaveCapacity items [] = Unit {0}
HaveCapacity items (room ∷ rooms) = (items ≤ room) × HaveCapacity items rooms

-- room is ready for so many items in so many chunks, and no chunk waits
pub record IsReady {T : Type 0} (items jobs : ℕ) (ready : List ℕ) (waiting : List (List T)) (most : ℕ) : Type 0 where
  pub buffers : HaveCapacity (items / jobs + 1) ready
  pub many : length ready ≡ jobs
  pub none : waiting ≡ []
  pub places : jobs ≤ most

-- of these items those before the ones that are left were updated
abbrev pub HasUpdated : {T : Type 0} → (T → T → Type 0) → (items left done : List T) → Type 0
HasUpdated {T} Updated items left done = (before : List T) × (items ≡ before ++ left) × AllZip Updated before done
