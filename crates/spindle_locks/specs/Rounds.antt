-- What a round answers, and what it may be refused for.
use Rattle.std.specs.Prelude.{◌≡◌, ℕ, ◌<◌, ◌≤◌, ◌++◌, min, map, List}
use Rattle.std.specs.List.{AllZip}
use Rattle.std.proofs.Common.{not-suc-le-zero}
use Rattle.spindle_parts.specs.Words.{most_jobs}
use Rattle.spindle_parts.specs.Pieces.{joined}
use Rattle.spindle_parts.specs.declared.cut.Piece.{Piece}
use Rattle.spindle_parts.specs.declared.fault.Fault.{Fault}
use Rattle.spindle_parts.specs.declared.fault.Fault.TheVariants.{Memory, Lost}

-- the jobs of a round: the pieces of its items
abbrev pub job_count : (items n_jobs : ℕ) → ℕ
job_count items n_jobs = min items (min n_jobs most_jobs)

-- why a round of so many jobs, of which so many threads may take part, may be refused, but never one of no jobs:
-- for want of memory, or since the piece of the number k is lost
abbrev pub IsRefusal : (threads jobs : ℕ) → Fault → Type 0
IsRefusal threads jobs Memory = 0 < jobs
IsRefusal threads jobs (Lost k) = (k < jobs) × (2 ≤ jobs) × (2 ≤ threads)

-- a round of no jobs isn't refused: a proof, which stands here because a law of `RunsRounds` must cite it
pub never_of_none : (threads : ℕ) (fault : Fault) → IsRefusal threads 0 fault → ⊥
never_of_none threads Memory refused = not-suc-le-zero refused
never_of_none threads (Lost k) refused = not-suc-le-zero refused.0

-- what runs rounds goes on: it has as many threads as before, is refused for no more reasons, and may run the next round, where
-- these tell its threads, the reasons, and that it may
abbrev pub GoesOnAs : {L : Type 0} → (threads : L → ℕ) → (refuses : L → ℕ → Fault → Type 0)
    → (rests : L → Type 0) → (old new : L) → Type 0
GoesOnAs threads refuses rests old new = (threads new ≡ threads old) × rests new
    × ((jobs : ℕ) → (fault : Fault) → refuses new jobs fault → refuses old jobs fault)

-- the items of the pieces, in order
abbrev pub items_of : {T : Type 0} → List (Piece T) → List T
items_of pieces = joined (map (λ piece. piece.items.items) pieces)

-- the new outputs are the old ones, and then an answer to each of the items
abbrev pub AddsAnswers : {A B : Type 0}
    → (A → B → Type 0) → (items : List A) → (old new : List B) → Type 0
AddsAnswers {A} {B} Meets items old new =
    (more : List B) × AllZip Meets items more × (new ≡ old ++ more)
