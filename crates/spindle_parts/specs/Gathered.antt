-- The answers of jobs that each make a list and may fail, as one list.
use Rattle.std.specs.Prelude.{◌≡◌, ◌++◌, ◌∷◌, List, Result, Ok, Err, Vec, map}
use Rattle.std.specs.declared.alloc.Global.{Global}
use Rattle.spindle_parts.specs.Pieces.{joined}

-- the lists of all answers joined in order, or the first failure among them
abbrev pub IsGathered : {T E : Type 0}
    → List (Result (Vec T Global) E) → Result (Vec T Global) E → Type 0
IsGathered {T} {E} answers (Ok all) = (lists : List (Vec T Global)) × (answers ≡ map Ok lists)
    × (all.items ≡ joined (map (λ list. list.items) lists))
IsGathered {T} {E} answers (Err failure) =
    (lists : List (Vec T Global)) × (later : List (Result (Vec T Global) E))
    × (answers ≡ map Ok lists ++ Err failure ∷ later)
