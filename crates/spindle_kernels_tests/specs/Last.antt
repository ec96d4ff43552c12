-- The last odd number of a list.
use Rattle.std.specs.Prelude.{◌≡◌, ℕ, Bool, true, false, ◌==◌, ◌%◌, if◌then◌else◌}
use Rattle.std.proofs.Common.{refl, ap, sym}

-- the second number, or the first one where that is 0
abbrev pub later : (first second : ℕ) → ℕ
later first second = if second == 0 then first else second

-- the number where it is odd, else 0
abbrev pub odd_or_0 : ℕ → ℕ
odd_or_0 number = if number % 2 == 1 then number else 0

-- in whichever groups, where it is known whether the third number is 0
grouped : (x y z : ℕ) (none : Bool) → (z == 0) ≡ none → (if none then later x y else z) ≡ later x (if none then y else z)
grouped x y z true e = refl
grouped x y z false e = sym (ap (λ none. if none then x else z) e)

-- in whichever groups
pub later_associative : (x y z : ℕ) → later (later x y) z ≡ later x (later y z)
later_associative x y z = grouped x y z (z == 0) refl
