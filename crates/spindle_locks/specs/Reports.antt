-- What came of a round that may stop: which pieces ran, with their outputs, and which were skipped.
use Rattle.std.specs.Prelude.{◌≡◌, ◌⊎◌, ℕ, ◌<◌, ◌≤◌, min, Bool, true, false, not, if◌then◌else◌, List, [], ◌∷◌, ◌++◌, Option, Some, None, IfSome, IsSomeAnd, Vec, length}
use Rattle.std.specs.Prelude.{map, filter, slice_get, slice_index_or, vec_len, vec_capacity, IsPermutation}
use Rattle.std.specs.List.Sorted.{IsStrictlyIncreasing}
use Rattle.std.specs.List.{All, AllZip, Any}
use Rattle.spindle_parts.specs.Pieces.{counted, joined}
use Rattle.spindle_locks.specs.PieceRuns.{piece_at}
use Rattle.spindle_locks.specs.declared.pieces.report.Report.{Report}
use Rattle.spindle_locks.specs.declared.pieces.tally.Tally.{Tally}

-- the numbers of the pieces that ran
abbrev pub numbers_of : {V : Type 0} → List (ℕ × V) → List ℕ
numbers_of ran = map (λ piece. piece.0) ran

-- one of the piece's outputs is a failure
abbrev pub HasFailed : {B Z : Type 0} → (B → Type 0) → (ℕ × Vec B Z) → Type 0
HasFailed Fails piece = Any Fails piece.1.items

-- the piece's outputs answer the items of its number, of n pieces
abbrev pub IsAnswered : {A B Z : Type 0} → (A → B → Type 0) → List A → (n : ℕ) → (ℕ × Vec B Z) → Type 0
IsAnswered Meets items n piece = AllZip Meets (piece_at items n piece.0) piece.1.items

-- the outputs of the pieces that ran, in order
abbrev pub outputs_of : {B Z : Type 0} → List (ℕ × Vec B Z) → List B
outputs_of ran = joined (map (λ piece. piece.1.items) ran)

-- none of these pieces has failed
abbrev pub NoneFailed : {B Z : Type 0} → (B → Type 0) → List (ℕ × Vec B Z) → Type 0
NoneFailed Fails pieces = All (λ piece. HasFailed Fails piece → ⊥) pieces

-- the first of these pieces that has failed is the one of this number
abbrev pub IsFirstFailed : {B Z : Type 0} → (B → Type 0) → List (ℕ × Vec B Z) → ℕ → Type 0
IsFirstFailed {B} {Z} Fails pieces number = (before after : List (ℕ × Vec B Z)) × (piece : ℕ × Vec B Z) × (pieces ≡ before ++ piece ∷ after)
    × (piece.0 ≡ number) × HasFailed Fails piece × NoneFailed Fails before

-- these are the numbers of those pieces that have failed, in their order
unfoldable pub AreFailed : {B Z : Type 0} → (B → Type 0) → List (ℕ × Vec B Z) → List ℕ → Type 0
AreFailed Fails [] numbers = numbers ≡ []
AreFailed Fails (piece ∷ pieces) numbers = (HasFailed Fails piece × (others : List ℕ) × (numbers ≡ piece.0 ∷ others) × AreFailed Fails pieces others)
    ⊎ ((HasFailed Fails piece → ⊥) × AreFailed Fails pieces numbers)

-- what a report promises of a round over these items in n pieces
pub record IsReport {A B : Type 0} (Meets : A → B → Type 0) (Fails : B → Type 0) (items : List A) (n : ℕ) (report : Report B) : Type 0 where
  -- the numbers of its two lists ascend, and together they are every piece's number once
  pub ran : IsStrictlyIncreasing (numbers_of report.ran.items)
  pub skipped : IsStrictlyIncreasing report.skipped.items
  pub each_once : IsPermutation (counted 0 n) (numbers_of report.ran.items ++ report.skipped.items)
  -- where none was skipped every piece ran
  pub whole : report.skipped.items ≡ [] → numbers_of report.ran.items ≡ counted 0 n
  -- each piece that ran answers its items
  pub answers : All (IsAnswered Meets items n) report.ran.items
  -- where a piece was skipped, one that ran has failed
  pub stopped : (report.skipped.items ≡ []) ⊎ Any (HasFailed Fails) report.ran.items

-- whether the number k is marked
abbrev pub is_marked : List Bool → ℕ → Bool
is_marked marks k = slice_index_or marks k false

-- the number k, where its piece is lost: it is marked as left and ran, or it isn't and didn't
abbrev pub lost_at : {X : Type 0} → Bool → Option X → (k : ℕ) → Option ℕ
lost_at true (Some outputs) k = Some k
lost_at false (Some outputs) k = None
lost_at true None k = None
lost_at false None k = Some k

-- the less of two numbers, or the one that there is
abbrev pub less_of : Option ℕ → Option ℕ → Option ℕ
less_of None q = q
less_of (Some i) None = Some i
less_of (Some i) (Some j) = Some (min i j)

-- the less of the number that was noted as lost and the first that was skipped
abbrev pub first_astray : {B : Type 0} → Tally B → Option ℕ
first_astray tally = less_of tally.lost (slice_get tally.skipped.items 0)

-- the least number that is lost of all: what was skipped is lost too, where no piece that ran has failed
abbrev pub least_lost : {B : Type 0} → Tally B → Option ℕ
least_lost tally = if tally.failed then tally.lost else first_astray tally

-- a tally of the first k pieces, of which some are marked as left, as long as none was lost
pub record IsTold {B : Type 0} (left : List Bool) (k : ℕ) (tally : Tally B) : Type 0 where
  pub ran : numbers_of tally.ran.items ≡ filter (λ j. not (is_marked left j)) (counted 0 k)
  pub skipped : tally.skipped.items ≡ filter (is_marked left) (counted 0 k)

-- the first k of n pieces were noted, and there is room for the others
pub record IsNoted {A B : Type 0} (Meets : A → B → Type 0) (Fails : B → Type 0) (items : List A) (n : ℕ) (left : List Bool) (k : ℕ) (tally : Tally B)
    : Type 0 where
  pub ran_room : vec_len tally.ran ≤ k
  pub skipped_room : vec_len tally.skipped ≤ k
  pub ran_most : n ≤ vec_capacity tally.ran
  pub skipped_most : n ≤ vec_capacity tally.skipped
  pub told : tally.lost ≡ None → IsTold left k tally
  pub answers : All (IsAnswered Meets items n) tally.ran.items
  pub failed : tally.failed ≡ true → Any (HasFailed Fails) tally.ran.items
  pub marked : All (λ j. (j < k) × (is_marked left j ≡ true)) tally.skipped.items
  pub lost : IfSome tally.lost (λ j. j < k)
  -- each marked number was skipped or lost, so none is less than the first of these
  pub least : (j : ℕ) → j < k → is_marked left j ≡ true → IsSomeAnd (first_astray tally) (λ i. i ≤ j)

-- a report of no pieces
abbrev pub IsOfNone : {B : Type 0} → Report B → Type 0
IsOfNone report = (report.ran.items ≡ []) × (report.skipped.items ≡ [])

-- the buffer of a piece with these items is empty and large enough, or holds their answers
abbrev pub IsBufferFor : {A B Z : Type 0} → (A → B → Type 0) → List A → Vec B Z → Type 0
IsBufferFor Meets items buffer = ((buffer.items ≡ []) × (length items ≤ vec_capacity buffer)) ⊎ AllZip Meets items buffer.items

-- a buffer for each of n pieces, of which those from a number on are as they have to be
abbrev pub AreBuffers : {A B Z : Type 0} → (A → B → Type 0) → List A → (n from : ℕ) → List (Vec B Z) → Type 0
AreBuffers {B = B} {Z = Z} Meets items n from buffers = (length buffers ≡ n)
    × ((k : ℕ) (d : Vec B Z) → from ≤ k → k < n → IsBufferFor Meets (piece_at items n k) (slice_index_or buffers k d))
