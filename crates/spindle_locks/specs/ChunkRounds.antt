-- Rounds over the chunks of one list.
use Rattle.std.specs.Prelude.{◌≡◌, ℕ, List, Result, Vec, length, map}
use Rattle.std.specs.List.{AllZip}
use Rattle.std.specs.declared.alloc.Global.{Global}
use Rattle.spindle_parts.specs.Gathered.{IsGathered}
use Rattle.spindle_parts.specs.Pieces.{joined, cut_lengths}

-- the list is cut evenly into so many chunks, or into its items where these are fewer; each chunk has an answer by the
-- relation; and this is the lists of all answers joined in order, or the first failure among them
abbrev pub IsMapped : {T U E : Type 0} → (List T → Result (Vec U Global) E → Type 0)
    → (n_jobs : ℕ) → List T → Result (Vec U Global) E → Type 0
IsMapped {T} {U} {E} Meets n_jobs list all = (chunks : List (List T))
    × (answers : List (Result (Vec U Global) E)) × (joined chunks ≡ list)
    × (map (λ chunk. length chunk) chunks ≡ cut_lengths (length list) n_jobs)
    × AllZip Meets chunks answers × IsGathered answers all
