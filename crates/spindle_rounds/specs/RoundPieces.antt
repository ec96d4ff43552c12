-- A table whose slots hold the pieces of a round.
use Rattle.std.specs.Prelude.{◌≡◌, ◌≢◌, ◌⊎◌, ◌↔◌, ℕ, ◌<◌, List, ◌∷◌, length, Option, Some}
use mathlib.Core.Option as m
use mathlib.Core.Option.{some, none}
use lib.ListN.{get_elem?}
use Rattle.atomic_table.specs.Table as table
use Rattle.atomic_table.specs.Table.{Act, rest}
use Rattle.spindle_parts.specs.State.{State, Round, times}
use Rattle.spindle_parts.specs.Steps.{Event}
use Rattle.spindle_parts.specs.Runs.{state}
use Rattle.spindle_rounds.specs.declared.round_table.view.View.{View}
use Rattle.spindle_rounds.specs.declared.round_table.view.Spot.{Spot}
use Rattle.spindle_rounds.specs.declared.round_table.view.Spot.TheVariants.{Vacant, Out, Filled}
use Rattle.spindle_rounds.specs.declared.round_table.pieces.SlotState.{SlotState}
use Rattle.spindle_rounds.specs.declared.round_table.pieces.SlotState.TheVariants.{Empty, Waits, Done}
use Rattle.spindle_rounds.specs.RoundSlots.{Discipline, spot_at}
use Rattle.spindle_rounds.specs.RoundRule.{ShownBy}

-- the slot is away
abbrev pub IsAway : {S : Type 0} → m.Option (m.Option S) → Type 0
IsAway h = h ≡ some none

-- the slot is at home with this
abbrev pub IsHome : {S : Type 0} → m.Option (m.Option S) → S → Type 0
IsHome h y = h ≡ some (some y)

-- the slot k is at the hand, with this value
abbrev pub IsAtHand : {S : Type 0} → ℕ → S → List (ℕ × S) → Type 0
IsAtHand k y c = c ≡ (k, y) ∷ rest c

-- the number k has begun in the round
abbrev pub HasBegun : Round → ℕ → Type 0
HasBegun r k = 0 < times k r.begun

-- the number k has finished in the round
abbrev pub HasEnded : Round → ℕ → Type 0
HasEnded r k = 0 < times k r.finished

-- the number k runs in the round
abbrev pub IsRunning : Round → ℕ → Type 0
IsRunning r k = HasBegun r k × (times k r.finished ≡ 0)

module _ {P A : Type 0} (answers : P → A → Type 0) where
  -- the slot holds what answers the piece
  abbrev pub IsDoneWith : P → SlotState P A → Type 0
  IsDoneWith x y = (o : A) × (y ≡ Done o) × answers x o

  -- the slot k, in which the piece x was put in the round r: it holds the piece until k begins, is
  -- away until k finishes, and then holds what answers the piece
  pub record Fits (r : Round) (k : ℕ) (x : P) (h : m.Option (m.Option (SlotState P A))) : Type 0 where
    pub fresh : times k r.begun ≡ 0 → IsHome h (Waits x)
    pub away : IsRunning r k → IsAway h
    pub done : HasEnded r k → (o : A) × IsHome h (Done o) × answers x o

  -- what the leader did with the slots, the slots, and what parties note of their claims
  pub record Held (s : State) (hs : List (m.Option (SlotState P A))) (vs : List (View P)) : Type 0 where
    pub board : List (ℕ × Spot P)
    pub leads : 0 < length vs
    pub leaders : (v : View P) → get_elem? vs 0 ≡ some v → v.board ≡ board
    pub vacant : (k : ℕ) → k < length hs → spot_at board k ≡ Vacant → IsHome (get_elem? hs k) Empty
    pub outside : (k : ℕ) → spot_at board k ≡ Out → IsAway (get_elem? hs k)
    pub fits : (k r : ℕ) (x : P) → spot_at board k ≡ Filled r x
        → Fits (s.rounds r) k x (get_elem? hs k)
    pub handed : (n : ℕ) → s.published ≡ Some n → (k : ℕ) → k < n
        → (x : P) × (spot_at board k ≡ Filled s.round x)
    pub notes : (p : ℕ) (v : View P) (k : ℕ) → get_elem? vs p ≡ some v → v.claim ≡ Some k
        → (x : P) × (v.note ≡ Some x) × (spot_at board k ≡ Filled s.round x)
        × IsRunning (s.rounds s.round) k

  -- what the leader finds in a slot that it takes out
  abbrev pub Found : Spot P → SlotState P A → Type 0
  Found Vacant y = y ≡ Empty
  Found Out y = ⊥
  Found (Filled r x) y = (y ≡ Waits x) ⊎ IsDoneWith x y

  -- and where the number has finished
  abbrev pub Answered : Spot P → SlotState P A → Type 0
  Answered (Filled r x) y = IsDoneWith x y
  Answered _ y = Unit {0}

  -- the claim's slot holds what answers its piece
  abbrev pub HasAnswer : ℕ → Option P → List (ℕ × SlotState P A) → Type 0
  HasAnswer k n c = (x : P) × (o : A) × (n ≡ Some x) × (c ≡ (k, Done o) ∷ rest c) × answers x o

  -- it answers the piece that the seat has noted
  abbrev pub AnswersNote : Option P → A → Type 0
  AnswersNote n o = (x : P) × (n ≡ Some x) × answers x o

  -- nothing, or a piece that wasn't run
  abbrev pub IsUnrun : SlotState P A → Type 0
  IsUnrun Empty = Unit {0}
  IsUnrun (Waits x) = Unit {0}
  IsUnrun (Done o) = ⊥

  -- what the leader has done with a slot once it has put this there in the round q
  abbrev pub spot_with : ℕ → SlotState P A → Spot P
  spot_with q Empty = Vacant
  spot_with q (Waits x) = Filled q x
  spot_with q (Done o) = Vacant

  -- the claim of k gives the slot k, with its piece, which the seat notes
  abbrev pub TookPiece : ℕ → List (ℕ × SlotState P A) → Option P → List (ℕ × SlotState P A) → Type 0
  TookPiece k c n c' = (x : P) × (n ≡ Some x) × (c' ≡ (k, Waits x) ∷ c)

  -- each number below n has a piece in its slot, put there in the round q
  abbrev pub AreFilled : (q n : ℕ) → List (ℕ × Spot P) → Type 0
  AreFilled q n b = (k : ℕ) → k < n → (x : P) × (spot_at b k ≡ Filled q x)

  -- what the rule of a table asks of slots in which the leader's pieces stand,
  -- and then what answers them
  abbrev pub pieces : Discipline (SlotState P A) P
  pieces = record {
    clause = Held;
    starts = λ xs. (k : ℕ) → k < length xs → get_elem? xs k ≡ some Empty;
    took = TookPiece;
    gives = Act.gives;
    may_give = HasAnswer;
    may_publish = AreFilled;
    may_take = λ p. p ≢ Out;
    found = Found;
    answered = Answered;
    may_put = λ p y. (p ≡ Out) × IsUnrun y;
    spot_of = spot_with;
  }

  -- The slot of a piece that the leader put there in the round r,
  -- until it takes the slot out: it is away exactly while k runs;
  -- at home it holds an answer to the piece exactly where k has finished, and else the piece.
  pub record SlotTells (r : Round) (k : ℕ) (x : P)
      (h : m.Option (m.Option (SlotState P A))) : Type 0 where
    pub there : IsAway h ⊎ ((y : SlotState P A) × IsHome h y)
    pub away : IsAway h ↔ IsRunning r k
    pub done : (y : SlotState P A) → IsHome h y → (HasEnded r k ↔ IsDoneWith x y)
    pub waits : (y : SlotState P A) → IsHome h y → times k r.finished ≡ 0 → y ≡ Waits x

  -- below n each slot at the hand holds an answer to the piece that the leader put there
  abbrev pub AreAnswered : ℕ → List (ℕ × Spot P) → List (ℕ × SlotState P A) → Type 0
  AreAnswered n b c = (k : ℕ) → k < n → (q : ℕ) × (x : P) × (o : A) × (spot_at b k ≡ Filled q x)
      × (get_elem? c k ≡ some (k, Done o)) × answers x o

  -- at every moment: while n is published each number below n has a piece in its slot, and each
  -- piece that the leader put into a slot and hasn't taken out stands there as the round says
  pub record SlotsTell (run : List Event) (s : table.State (SlotState P A) (View P)) : Type 0 where
    pub published : (n : ℕ) (v : View P) → (state run).published ≡ Some n
        → get_elem? s.views 0 ≡ some v → AreFilled (state run).round n v.board
    pub tells : (v : View P) (k q : ℕ) (x : P) → get_elem? s.views 0 ≡ some v
        → spot_at v.board k ≡ Filled q x
        → SlotTells ((state run).rounds q) k x (get_elem? s.homes k)

  -- wherever the rule of such a table holds
  abbrev pub EverySlot : Type 0
  EverySlot = (t : ℕ) (run : List Event) (s : table.State (SlotState P A) (View P))
      → ShownBy pieces t run s → SlotsTell run s
