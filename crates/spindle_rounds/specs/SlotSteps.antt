-- What the leader's taking out and giving back of slots tell its seat.
use Rattle.std.specs.Prelude.{◌≡◌, ◌⊎◌, ℕ, zero, suc, ◌+◌, ◌<◌, false, List, [], ◌∷◌, length}
use mathlib.Core.Option.{some}
use lib.ListN.{get_elem?}
use Rattle.atomic_table.specs.Table.{Me, Step}
use Rattle.spindle_parts.specs.Trail.{trace}
use Rattle.spindle_rounds.specs.declared.round_table.view.Kind.TheVariants as kind
use Rattle.spindle_rounds.specs.declared.round_table.view.View.{View}
use Rattle.spindle_rounds.specs.declared.round_table.view.Spot.{Spot}
use Rattle.spindle_rounds.specs.declared.round_table.view.Spot.TheVariants.{Out, Filled}
use Rattle.spindle_rounds.specs.RoundSlots.{Discipline, spot_at}
use Rattle.spindle_rounds.specs.RoundShown.{Deed, Showed, deeds_of}
use Rattle.spindle_rounds.specs.Words.{published_at}
use Rattle.spindle_rounds.specs.RoundSteps.{noted, round_of}

-- the slots from i on, with these values, before other slots
abbrev pub numbered : {S : Type 0} → ℕ → List S → List (ℕ × S) → List (ℕ × S)
numbered i [] c = c
numbered i (y ∷ ys) c = (i, y) ∷ numbered (i + 1) ys c

-- the board once the first n slots are out
abbrev pub board_out : {N : Type 0} → ℕ → List (ℕ × Spot N) → List (ℕ × Spot N)
board_out zero b = b
board_out (suc n) b = board_out n ((n, Out) ∷ b)

-- the deed is among these
abbrev pub IsDeed : Deed → List Deed → Type 0
IsDeed d [] = ⊥
IsDeed d (x ∷ xs) = (x ≡ d) ⊎ IsDeed d xs

-- by its trail the leader published n jobs in the round r, which can't stop
abbrev pub HasPublished : {N : Type 0} → View N → (r n : ℕ) → Type 0
HasPublished v r n = IsDeed (Showed r n false) (deeds_of v.trail)

-- by its trail the leader published k in the round in which it put a piece there, and nothing
-- could stop that round
abbrev pub IsSure : {N : Type 0} → View N → ℕ → Spot N → Type 0
IsSure v k (Filled r x) = (n : ℕ) × (k < n) × HasPublished v r n
IsSure v k _ = ⊥

module _ {S N : Type 0} (D : Discipline S N) where
  -- what the leader finds in the slots that it takes out
  abbrev pub FoundAll : View N → List S → Type 0
  FoundAll v ys = (k : ℕ) (y : S) → get_elem? ys k ≡ some y → let p : Spot N = spot_at v.board k in
      D.found p y × (IsSure v k p → D.answered p y)

  -- the view once every slot is out
  abbrev pub taking_out : ℕ → ℕ → View N → View N
  taking_out slots found v = noted (trace published_at kind.TakeOut found found)
      (record v { board = board_out slots v.board })

  -- the leader takes every slot out, and has them at its hand in their order
  abbrev pub TakenOut : ℕ → ℕ → Me S (View N) → Me S (View N) → Type 0
  TakenOut slots found m w = (ys : List S) × (length ys ≡ slots)
      × (w ≡ (taking_out slots found m.0, numbered 0 ys m.1)) × FoundAll m.0 ys

  -- taking every slot out
  abbrev pub TakeOutTells : Step S → Me S (View N) → ℕ → Me S (View N) → Type 0
  TakeOutTells st m found m' = TakenOut st.slots found m m'

  -- the board once these slots are back
  abbrev pub board_back : ℕ → List (ℕ × S) → List (ℕ × Spot N) → List (ℕ × Spot N)
  board_back q [] b = b
  board_back q (x ∷ c) b = board_back q c ((x.0, D.spot_of q x.1) ∷ b)

  -- the view once the slots that the leader holds are back
  abbrev pub giving_back : ℕ → List (ℕ × S) → View N → View N
  giving_back found c v = noted (trace published_at kind.GiveBack found found)
      (record v { board = board_back (round_of v.standing) c v.board })

  -- the leader gives back every slot that it holds
  abbrev pub GiveBackTells : Step S → Me S (View N) → ℕ → Me S (View N) → Type 0
  GiveBackTells st m found m' = m' ≡ (giving_back found m.1 m.0, [])
