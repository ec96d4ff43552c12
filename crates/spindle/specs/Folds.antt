-- Folding a list by an operation that may be done chunk by chunk.
use Rattle.std.specs.Prelude.{◌≡◌, List, fold}

-- in whichever groups three values are combined, the outcome is the same
abbrev pub IsAssociative : {T : Type 0} → (T → T → T) → Type 0
IsAssociative {T} combine = (x y z : T) → combine (combine x y) z ≡ combine x (combine y z)

-- behind itself, and behind all that was combined, this value changes nothing
abbrev pub IsNeutral : {T : Type 0} → (T → T → T) → T → Type 0
IsNeutral {T} combine neutral = (combine neutral neutral ≡ neutral)
    × ((x y : T) → combine (combine x y) neutral ≡ combine x y)

-- the values of the items, combined one behind the other from the neutral one on
abbrev pub total_of : {A T : Type 0} → (T → T → T) → T → (A → T) → List A → T
total_of combine neutral value items = fold (λ total item. combine total (value item)) neutral items
