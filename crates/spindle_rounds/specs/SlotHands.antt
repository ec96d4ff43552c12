-- The slots in their leader's hand between two rounds,
-- and where they stand on its board while a round lasts.
use Rattle.std.specs.Prelude.{◌≡◌, ℕ, zero, suc, ◌<◌, ◌≤◌, true, List}
use Rattle.atomic_table.specs.Table.{Me, turned}
use Rattle.spindle_rounds.specs.declared.round_table.view.View.{View}
use Rattle.spindle_rounds.specs.declared.round_table.view.Spot.{Spot}
use Rattle.spindle_rounds.specs.declared.round_table.view.Spot.TheVariants.{Vacant, Out, Filled}
use Rattle.spindle_rounds.specs.declared.round_table.pieces.SlotState.{SlotState}
use Rattle.spindle_rounds.specs.declared.round_table.pieces.SlotState.TheVariants.{Empty, Waits, Done}
use Rattle.spindle_rounds.specs.declared.barrier.Barrier.{Barrier}
use Rattle.spindle_rounds.specs.declared.round.Round.{Round}
use Rattle.spindle_rounds.specs.Parties.{IsIn}
use Rattle.spindle_rounds.specs.RoundConditions.{MayFill}
use Rattle.spindle_rounds.specs.RoundSlots.{spot_at}
use Rattle.spindle_rounds.specs.Seating.{HasSlots}
use Rattle.spindle_rounds.specs.SlotLoops.{IsEmpty, HoldsEach}

-- what is at the hand after n turns
abbrev pub turned_by : {S : Type 0} → ℕ → List (ℕ × S) → List (ℕ × S)
turned_by zero c = c
turned_by (suc n) c = turned_by n (turned c)

-- so many slots of a board are out
abbrev pub AllOut : {N : Type 0} → ℕ → List (ℕ × Spot N) → Type 0
AllOut slots b = (k : ℕ) → k < slots → spot_at b k ≡ Out

-- the leader has done nothing with so many slots
abbrev pub AllVacant : {N : Type 0} → ℕ → List (ℕ × Spot N) → Type 0
AllVacant slots b = (k : ℕ) → k < slots → spot_at b k ≡ Vacant

-- between two rounds: so many slots are at the hand in their order, each of them empty
pub record HoldsAll {P A : Type 0} (slots : ℕ) (m : Me (SlotState P A) (View P)) : Type 0 where
  pub hand : HoldsEach IsEmpty slots m.1
  pub out : AllOut slots m.0.board

-- the leader of a table with so many slots, between two rounds
pub record LeadsWith {T P A : Type 0} (slots : ℕ) (round : Round T (SlotState P A) P)
    (b : Barrier T (SlotState P A) P) : Type 0 where
  pub party : IsIn round true b
  pub unpublished : MayFill b.seat.me.0
  pub holds : HoldsAll slots b.seat.me
  pub many : HasSlots round.init slots

module _ {P : Type 0} (Is : ℕ → P → Type 0) where
  -- in the slot k a piece waits that is what it must be under this number
  abbrev pub WaitsAs : {A : Type 0} → ℕ → SlotState P A → Type 0
  WaitsAs k y = (x : P) × (y ≡ Waits x) × Is k x

  -- in the round r the leader put such pieces into the first n of so many slots,
  -- and nothing into the others
  pub record LaidOut (slots n r : ℕ) (b : List (ℕ × Spot P)) : Type 0 where
    pub filled : (k : ℕ) → k < n → (x : P) × (spot_at b k ≡ Filled r x) × Is k x
    pub vacant : (k : ℕ) → n ≤ k → k < slots → spot_at b k ≡ Vacant

  -- below n the slot k holds an answer to such a piece, and from n on it is empty
  pub record AnsweredAs {A : Type 0} (answers : P → A → Type 0) (n k : ℕ)
      (y : SlotState P A) : Type 0 where
    pub done : k < n → (x : P) × (o : A) × (y ≡ Done o) × answers x o × Is k x
    pub empty : n ≤ k → y ≡ Empty
