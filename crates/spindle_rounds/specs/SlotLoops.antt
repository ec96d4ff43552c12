-- A loop over the slots at a leader's hand, one after the other from the first.
use Rattle.std.specs.Prelude.{◌≡◌, ℕ, ◌+◌, List, [], length}
use mathlib.Core.Option.{some}
use lib.ListN.{get_elem?}
use Rattle.spindle_rounds.specs.declared.round_table.pieces.SlotState.{SlotState}
use Rattle.spindle_rounds.specs.declared.round_table.pieces.SlotState.TheVariants.{Empty, Waits}
use Rattle.spindle_rounds.specs.SlotSteps.{numbered}

-- whatever stands in the slot k
abbrev pub IsAny : {S : Type 0} → ℕ → S → Type 0
IsAny k y = Unit {0}

-- nothing stands in the slot k
abbrev pub IsEmpty : {P A : Type 0} → ℕ → SlotState P A → Type 0
IsEmpty k y = y ≡ Empty

-- a piece stands in the slot k
abbrev pub IsPiece : {P A : Type 0} → ℕ → SlotState P A → Type 0
IsPiece {P} k y = (x : P) × (y ≡ Waits x)

module _ {X : Type 0} where
  -- n slots are at the hand in their order,
  -- and this holds of each number and what stands in its slot
  pub record HoldsEach (P : ℕ → X → Type 0) (n : ℕ) (c : List (ℕ × X)) : Type 0 where
    pub ys : List X
    pub many : length ys ≡ n
    pub hand : c ≡ numbered 0 ys []
    pub each : (k : ℕ) (y : X) → get_elem? ys k ≡ some y → P k y

  -- of n slots the first i were changed and stand behind the others:
  -- P holds of those that are left, and Q of those that were changed
  pub record Turning (P Q : ℕ → X → Type 0) (n i : ℕ) (c : List (ℕ × X)) : Type 0 where
    pub old : List X
    pub new : List X
    pub hand : c ≡ numbered i old (numbered 0 new [])
    pub left : i + length old ≡ n
    pub done : length new ≡ i
    pub old_are : (k : ℕ) (y : X) → get_elem? old k ≡ some y → P (i + k) y
    pub new_are : (k : ℕ) (y : X) → get_elem? new k ≡ some y → Q k y
