-- The greatest sum of a run.
use Rattle.std.specs.Prelude.{◌≡◌, ℤ, pos, ◌+ℤ◌, List, [], ◌∷◌}
use Rattle.std.specs.Int.{int_max}

-- of values: their sum, and the greatest sum of a run that begins at the first, that ends at the last, and of any; a run may be empty
abbrev pub sums_of : List ℤ → ℤ × ℤ × ℤ × ℤ
sums_of [] = (pos 0, pos 0, pos 0, pos 0)
sums_of (x ∷ xs) =
    let rest = sums_of xs in
    (x +ℤ rest.0, int_max (pos 0) (x +ℤ rest.1), int_max (x +ℤ rest.0) rest.2, int_max (x +ℤ rest.1) rest.3)

-- these are the sums of the values
abbrev pub AreSums : List ℤ → ℤ × ℤ × ℤ × ℤ → Type 0
AreSums xs sums = let all = sums_of xs in (sums.0 ≡ all.0) × (sums.1 ≡ all.1) × (sums.2 ≡ all.2) × (sums.3 ≡ all.3)

-- these are the sums of two lists, one behind the other, by theirs
abbrev pub AreJoined : (first second sums : ℤ × ℤ × ℤ × ℤ) → Type 0
AreJoined first second sums = (sums.0 ≡ first.0 +ℤ second.0) × (sums.1 ≡ int_max first.1 (first.0 +ℤ second.1))
    × (sums.2 ≡ int_max second.2 (first.2 +ℤ second.0)) × (sums.3 ≡ int_max (int_max first.3 second.3) (first.2 +ℤ second.1))
