-- Calls over whole lists that may fail at an item.
use Rattle.std.specs.Prelude.{◌≡◌, List, [], ◌∷◌, Option, Some, None, Result, Ok, Err, Vec, vec_len}
use Rattle.std.specs.Global.{Global}
use Rattle.std.specs.List.{AllZip}
use Rattle.spindle.specs.declared.kernels.tries.Failed.{Failed}

-- these are the values of the items up to the first that has none, and that is its failure; or those of all, and there is no failure
abbrev pub AreUpTo : {X V E : Type 0} → (X → Result V E → Type 0) → List X → List V → Option E → Type 0
AreUpTo computes [] [] None = Unit {0}
AreUpTo computes [] [] (Some failure) = ⊥
AreUpTo computes [] (value ∷ values) failed = ⊥
AreUpTo computes (x ∷ items) [] None = ⊥
AreUpTo computes (x ∷ items) [] (Some failure) = computes x (Err failure)
AreUpTo computes (x ∷ items) (value ∷ values) failed = computes x (Ok value) × AreUpTo computes items values failed

-- each item has its value; or one has none, and each before it has its value
abbrev pub IsTried : {X V E : Type 0} → (X → Result V E → Type 0) → List X → Result (Vec V Global) (Failed V E) → Type 0
IsTried computes items (Ok values) = AllZip (λ x value. computes x (Ok value)) items values.items
IsTried computes items (Err failed) = (failed.place ≡ vec_len failed.before) × AreUpTo computes items failed.before.items (Some failed.failure)
