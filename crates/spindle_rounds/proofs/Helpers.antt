-- How a helper comes to a thread number.
use Rattle.std.proofs.Common.{◌≡◌, ℕ, refl}
use Rattle.spindle_parts.specs.ThreadNumbers.{holding_after}
use Rattle.spindle_parts.specs.declared.numbers.Take.{Take}
use Rattle.spindle_parts.specs.declared.numbers.Take.TheVariants.{Taken, AllInUse, Again}
use Rattle.spindle_parts.specs.declared.numbers.plays.Holding.TheVariants.{Nothing}

-- a try that didn't take a number leaves none
pub none_held : (t : Take) → ((k : ℕ) → t ≡ Taken k → ⊥) → holding_after t ≡ Nothing
none_held (Taken k) untaken = absurd (untaken k refl)
none_held AllInUse untaken = refl
none_held Again untaken = refl
