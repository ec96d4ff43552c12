-- What came of a round in place that may stop.
use Rattle.std.specs.Prelude.{◌≡◌, ◌⊎◌, ℕ, true, false, List, [], Vec, map, None, vec_len}
use Rattle.std.specs.List.{All, AllZip, Any}
use Rattle.std.specs.declared.alloc.Global.{Global}
use Rattle.spindle_parts.specs.Pieces.{cut_lengths, joined}
use Rattle.spindle.specs.declared.lock.attempt.Attempt.{Attempt}

-- the piece ran
abbrev pub HasRun : {A B : Type 0} → Attempt A B → Type 0
HasRun attempt = attempt.ran ≡ true

-- the piece ran, and one of its outputs is a failure
abbrev pub HasFailed : {A B : Type 0} → (B → Type 0) → Attempt A B → Type 0
HasFailed Fails attempt = HasRun attempt × Any Fails attempt.outputs.items

-- the piece was skipped: it has no outputs
abbrev pub IsSkipped : {A B : Type 0} → Attempt A B → Type 0
IsSkipped attempt = (attempt.ran ≡ false) × (attempt.outputs.items ≡ [])

-- the piece ran, and its outputs answer its items; or it was skipped
abbrev pub IsRight : {A B : Type 0} → (A → B → Type 0) → Attempt A B → Type 0
IsRight Meets attempt = (HasRun attempt × AllZip Meets attempt.items.items attempt.outputs.items) ⊎ IsSkipped attempt

-- a piece before and after its job: its items stay, what is right stays right, and it ran where nothing keeps it from that
abbrev pub IsAttempted : {A B : Type 0} → (A → B → Type 0) → (old new : Attempt A B) → Type 0
IsAttempted Meets old new = (new.items ≡ old.items) × (IsRight Meets old → IsRight Meets new) × (old.stop ≡ None → HasRun new)

-- a piece before and after its stop was taken from it
abbrev pub IsUnstopped : {A B : Type 0} → (old new : Attempt A B) → Type 0
IsUnstopped old new = (new.stop ≡ None) × (new.items ≡ old.items) × (new.outputs ≡ old.outputs) × (new.ran ≡ old.ran)

-- what a round that may stop promises of the pieces of its items for n jobs
pub record AreAttempts {A B : Type 0} (Meets : A → B → Type 0) (Fails : B → Type 0) (items : Vec A Global) (n : ℕ) (pieces : List (Attempt A B))
    : Type 0 where
  -- they are the items, in order, of the lengths into which cut cuts them
  pub whole : joined (map (λ piece. piece.items.items) pieces) ≡ items.items
  pub lengths : map (λ piece. vec_len piece.items) pieces ≡ cut_lengths (vec_len items) n
  -- each ran and answers its items, or was skipped and has no outputs
  pub right : All (IsRight Meets) pieces
  -- all ran, or one that ran has failed
  pub stopped : All HasRun pieces ⊎ Any (HasFailed Fails) pieces
