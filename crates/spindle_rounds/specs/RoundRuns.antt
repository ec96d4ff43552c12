-- What each kind of step on a round table adds to the run that the table shows.
use Rattle.std.specs.Prelude.{◌≡◌, ◌≢◌, ◌⊎◌, ℕ, ◌+◌, ◌-◌, ◌%◌, ◌^◌, ◌<◌, ◌≤◌, Bool, true}
use Rattle.std.specs.Prelude.{false}
use Rattle.std.specs.Prelude.{List, [], ◌∷◌, ◌++◌, length, slice_index, Some, if◌then◌else◌, ◌==◌}
use Rattle.std.specs.Prelude.{nat_lt}
use mathlib.Core.Option.{none, some}
use lib.ListN.{get_elem?}
use prog.Atomic.{either}
use Rattle.atomic_table.specs.Table as table
use Rattle.atomic_table.specs.Table.{Me, Act, Step, step, stepped, Valid, Splits, carried_after}
use Rattle.atomic_table.specs.Table.{opening}
use Rattle.spindle_parts.specs.Steps.{Event, Join, Publish, PublishTry, Take, Begin, Finish}
use Rattle.spindle_parts.specs.Steps.{Stop, See, PutBack, Arrive, Leave, Exit, Clear, End}
use Rattle.spindle_parts.specs.EverySchedule.{only}
use Rattle.spindle_rounds.specs.declared.round_table.view.Standing.TheVariants.{Away, Closing}
use Rattle.spindle_rounds.specs.declared.round_table.view.View.{View}
use Rattle.spindle_rounds.specs.RoundSlots.{Discipline}
use Rattle.spindle_rounds.specs.RoundRule.{ShownBy}
use Rattle.spindle_rounds.specs.Words.{barrier_at, published_at, finished_at, stopped_at}
use Rattle.spindle_rounds.specs.Words.{remainder_at, range_at, filled_at, words_of}
use Rattle.spindle_rounds.specs.Words.{one_member, one_party, high_half, most_parties, most_jobs}
use Rattle.spindle_rounds.specs.Words.{count_of, most_of, sense_of, start_of, end_of, range_word}
use Rattle.spindle_rounds.specs.RoundSteps.{outsider, new_view, exit_word, turned_word, stolen_from}
use Rattle.spindle_rounds.specs.RoundSteps.{number_or}
use Rattle.spindle_rounds.specs.RoundTells as tells
use Rattle.spindle_rounds.specs.Leftovers.{FindTells, FindRestTells}
use Rattle.spindle_rounds.specs.RoundConditions.{MayFill, MayPublish, MayClaim, MayBegin, MayFinish}
use Rattle.spindle_rounds.specs.RoundConditions.{MayGive}
use Rattle.spindle_rounds.specs.SlotSteps.{TakeOutTells, GiveBackTells}
use Rattle.spindle_rounds.specs.RoundConditions.{MayTakeOut, MayGiveBack}
use Rattle.spindle_rounds.specs.RoundConditions.{MayStop, MaySee, MayPutBack, IsFreeInside, IsDone}
use Rattle.spindle_rounds.specs.RoundConditions.{IsWaiting, HasSense, MayLeave, MayExit, IsClosing}

-- the numbers of the last half of a range
abbrev pub last_half : ℕ → ℕ → Bool
last_half range k = if nat_lt k (stolen_from range) then false else nat_lt k (end_of range)

-- the party p takes some numbers and begins k, at once
abbrev pub claim_of : (p k : ℕ) → (ℕ → Bool) → List Event
claim_of p k taken = Begin p k ∷ Take p taken ∷ []

-- what a step tells its seat: of the step, the seat before, the value found, and the seat after
abbrev pub Telling : (S N : Type 0) → Type 1
Telling S N = Step S → Me S (View N) → ℕ → Me S (View N) → Type 0

module _ {S N : Type 0} (D : Discipline S N) (t slots id : ℕ) (me : Me S (View N)) where
  -- The word i becomes f of what it was. Whatever run the table shows before, the seat has a view
  -- and an act of which `says` holds, and with these the table shows that run with `new` before it.
  pub record Adds (i : ℕ) (f : ℕ → ℕ) (new : ℕ → List Event) (says : ℕ → Me S (View N) → Type 0)
      : Type 0 where
    pub shows : (run : List Event) (s : table.State S (View N)) →
        let found : ℕ = slice_index s.words i in
        ShownBy D t run s → length s.homes ≡ slots → get_elem? s.views id ≡ some me.0
        → found < 2 ^ 64
        → (w : View N) × (a : Act S) × Valid s.homes me.1 a
        × ShownBy D t (new found ++ run) (stepped s i (f found) id me.1 w a)
        × says found (w, carried_after me.1 a)

  -- a load of the word i, which adds `new` of the value found
  abbrev pub Load : ℕ → (ℕ → List Event) → Telling S N → Type 0
  Load i new says = Adds i (λ n. n) new (says (step slots i 0 0 none) me)

  -- a load that adds nothing
  abbrev pub PlainLoad : ℕ → Telling S N → Type 0
  PlainLoad i says = Load i (λ _. []) says

  -- a store of x in the word i, which adds `new`
  abbrev pub Store : ℕ → ℕ → List Event → Telling S N → Type 0
  Store i x new says = Adds i (λ _. x) (λ _. new) (λ _. says (step slots i x 0 none) me x)

  -- an exchange on the word i: where it finds `old` it adds `new`, and else it adds nothing
  abbrev pub Exchange : ℕ → (old to : ℕ) → List Event → Telling S N → Type 0
  Exchange i old to new says = Adds i (λ x. either (x == old) to x)
      (λ x. if x == old then new else []) (says (step slots i old to none) me)

  -- an addition of 1 to the word i
  abbrev pub Addition : ℕ → List Event → Telling S N → Type 0
  Addition i new says = Adds i (λ n. (n + 1) % 2 ^ 64) (λ _. new)
      (says (step slots i 1 0 none) me)

  -- a subtraction of 1
  abbrev pub Subtraction : ℕ → List Event → Telling S N → Type 0
  Subtraction i new says = Adds i (λ n. (n + (2 ^ 64 - 1)) % 2 ^ 64) (λ _. new)
      (says (step slots i 1 0 none) me)

  -- what each kind of step of the seat adds to the run, where the seat is as the step asks
  pub record Steps : Type 0 where
    -- the leader, with nothing published, stores a word of a round to come, and then the number
    pub fill : (j x : ℕ) → j < 3 + t → MayFill me.0 → Store (filled_at j) x [] tells.FillTells
    pub publish : (n : ℕ) → 0 < t → 2 ≤ n → n ≤ most_jobs → MayPublish D t n me.0
        → Store published_at n (Publish id n ∷ []) tells.PublishTells
    pub publish_try : (n : ℕ) → 0 < t → 2 ≤ n → n ≤ most_jobs → MayPublish D t n me.0
        → Store published_at (n + high_half) (PublishTry id n ∷ []) tells.PublishTryTells
    -- the leader, with nothing published, takes every slot out, and gives back those that it holds
    pub take_slots : MayTakeOut D slots me.0 → PlainLoad published_at (TakeOutTells D)
    pub give_slots : MayGiveBack D me → PlainLoad published_at (GiveBackTells D)
    -- a member that is in claims the front of a range
    pub claim_own : (i range : ℕ) → i < t → range < 2 ^ 64
        → start_of range < end_of range → MayClaim me.0 → let k : ℕ = start_of range in
        Exchange (range_at i) range (range + 1) (claim_of id k (only k)) (tells.ClaimTells D)
    -- the last half of a range, whose first number it begins
    pub steal : (i range : ℕ) → i < t → range < 2 ^ 64
        → start_of range < end_of range → MayClaim me.0 → let k : ℕ = stolen_from range in
        Exchange (range_at i) range (range_word (start_of range) k)
        (claim_of id k (last_half range)) (tells.StealTells D)
    -- the first number left of the remainder
    pub claim_remainder : (left : ℕ) → 0 < left → MayClaim me.0
        → let k : ℕ = number_or me.0.known.number - left in
        Exchange remainder_at left (left - 1) (claim_of id k (only k)) (tells.RemainderClaimTells D)
    -- it begins the first number of its share, and finishes a number
    pub begin_share : (i x : ℕ) → t ≤ i → me.0.from < me.0.to → MayBegin me.0
        → Store (range_at i) x (Begin id me.0.from ∷ []) (tells.ShareTells D)
    pub finish : (k : ℕ) → MayFinish k me.0 → MayGive D k me
        → Addition finished_at (Finish id ∷ []) (tells.FinishTells D)
    -- it stops the round, looks whether it was stopped, and puts its share back
    pub stop : (k : ℕ) → MayStop k me.0 → Store stopped_at 1 (Stop id ∷ []) tells.StopTells
    pub see : MaySee me.0
        → Load stopped_at (λ found. if found == 1 then See id ∷ [] else []) tells.SeeTells
    pub put_back : (i old to : ℕ) → i < t → end_of old ≤ start_of old → start_of to ≡ me.0.from
        → end_of to ≡ me.0.to → me.0.from ≤ me.0.to → MayPutBack me.0
        → Exchange (range_at i) old to (PutBack id ∷ []) tells.PutBackTells
    -- it arrives, or exits
    pub arrive : IsFreeInside me.0 → IsDone me.0
        → Subtraction barrier_at (Arrive id ∷ []) tells.ArrivalTells
    pub exit : (old : ℕ) → MayExit me.0 → Exchange barrier_at old (exit_word old)
        (Exit id ∷ []) tells.ExitTells
    -- a party that is out joins
    pub join : (old : ℕ) → me.0.standing ≡ Away → (0 < count_of old) ⊎ (most_of old ≡ 0)
        → most_of old < most_parties → Exchange barrier_at old (old + one_party)
        (Join id ∷ []) tells.JoinTells
    -- a party that has arrived looks, or leaves
    pub look : IsWaiting me.0 → PlainLoad barrier_at tells.LookTells
    pub leave : (old sense : ℕ) → HasSense me.0.standing sense → sense_of old ≢ sense
        → count_of old ≢ 0 → MayLeave me.0 → Exchange barrier_at old (old - one_member)
        (Leave id ∷ []) tells.LeaveTells
    -- the closer reads the word, clears, and ends the round
    pub read_to_end : IsClosing me.0 → PlainLoad barrier_at tells.CloserReadTells
    pub clear : IsClosing me.0 → Store published_at 0 (Clear id ∷ []) tells.ClearTells
    pub end : (q n : ℕ) (member : Bool) → me.0.standing ≡ Closing q member true (Some n)
        → Store barrier_at (turned_word n) (End id ∷ []) tells.EndTells
    -- anyone reads the barrier word, the published word, a range, the remainder
    pub load : PlainLoad barrier_at tells.LoadTells
    pub learn : PlainLoad published_at tells.LearnTells
    pub recall : PlainLoad published_at tells.RecallTells
    pub search : (i : ℕ) → i < t → PlainLoad (range_at i) tells.SearchTells
    pub read_rest : PlainLoad remainder_at tells.RemainderReadTells
    -- anyone asks what is left in a range, or in the remainder
    pub find : (i : ℕ) → i < t → PlainLoad (range_at i) FindTells
    pub find_rest : PlainLoad remainder_at (FindRestTells D)
    -- anyone splits a seat off, and the table shows the same run
    pub split : (run : List Event) → Splits (ShownBy D t run) id me.0 me.0 (new_view me.0)

module _ {S N : Type 0} (D : Discipline S N) where
  -- a fresh table shows the empty run
  abbrev pub OpensEmpty : Type 0
  OpensEmpty = (t : ℕ) (ws : List ℕ) (xs : List S) → length ws ≡ words_of t
      → ((i : ℕ) → slice_index ws i ≡ 0) → D.starts xs
      → ShownBy D t [] (opening ws xs (outsider t true))

  -- a fresh table shows the empty run, and each kind of step adds to the run what it says
  abbrev pub EveryStep : Type 0
  EveryStep = OpensEmpty × ((t slots id : ℕ) (me : Me S (View N)) → Steps D t slots id me)
