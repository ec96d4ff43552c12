-- What a guard of a child slot shows, what a clear does at a word, and who gets to write.
use Rattle.std.specs.Prelude.{◌≡◌, ◌≢◌, ◌⊎◌, ℕ, ◌%◌, ◌<◌, Option, Some, None, refl}
use Rattle.counted_slot.specs.Counting.{readers, IsTurn, Gains}
use Rattle.counted_slot.specs.declared.TheConstants.{FREE, PRESENT, TAKEN}
use Rattle.spindle_parts.specs.declared.aarc_imp.Clearing.{Clearing}
use Rattle.spindle_parts.specs.declared.aarc_imp.Clearing.TheVariants.{Empty, Take, Mark, Wait}
use Rattle.std.specs.Coded.{Coded, code_by, coded×, coded_option}

-- the slot's tag, and the value that the guard shows
pub record Sight (G T : Type 0) : Type 0 where
  pub tag : G
  pub value : Option T

-- a sight is coded as the pair of its tag and its value
abbrev pub sight_code : {G T : Type 0} → Coded G → Coded T → Coded (Sight G T)
sight_code {G} {T} g t = code_by (G × Option T) (coded× g (coded_option t)) (λ s. (s.tag, s.value))
    (λ p. record { tag = p.0; value = p.1 }) (λ _. refl)

-- the value of what a claim found, if there is one
abbrev pub shown_value : {T : Type 0} → Option (Option T) → Option T
shown_value None = None
shown_value (Some value) = value

-- It is empty where the word is free, takes where no guard is out, and marks where guards are out
-- and may still come. Else it waits: another thread has the value,
-- or guards are out and none may come
abbrev pub IsClearing : ℕ → Clearing → Type 0
IsClearing word Empty = word ≡ FREE
IsClearing word Take = (word ≢ FREE) × (word % 4 < TAKEN) × (readers word ≡ 0)
IsClearing word Mark = (word % 4 ≡ PRESENT) × (0 < readers word)
IsClearing word Wait = (word % 4 ≡ TAKEN) ⊎ ((word % 4 ≢ PRESENT) × (0 < readers word))

-- The change of a word from old to new gains the right to write, and so to hand out, a value
abbrev pub GainsWriting : ℕ → ℕ → Type 0
GainsWriting old new = IsTurn old new × Gains old new 2

-- a value is written or handed out only while no guard is out, and by one thread at a time
pub record WrittenAlone : Type 0 where
  -- no guard is out of the value that stands where a thread gains the right to write
  pub unguarded : (old new : ℕ) → GainsWriting old new → 0 < old % 4 → readers old ≡ 0
  -- the word says that one thread writes
  pub taken : (old new : ℕ) → GainsWriting old new → new % 4 ≡ TAKEN
  -- and while it says so nobody else gains anything
  pub alone : (old new : ℕ) → IsTurn old new → old % 4 ≢ TAKEN
