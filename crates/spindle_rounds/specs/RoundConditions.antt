-- What a call on a round table asks of its seat.
use Rattle.std.specs.Prelude.{◌≡◌, ◌⊎◌, ℕ, ◌+◌, ◌%◌, ◌≤◌, ◌<◌, Bool, true, false, List, [], ◌∷◌}
use Rattle.std.specs.Prelude.{Option, Some, None}
use Rattle.atomic_table.specs.Table.{Me}
use Rattle.spindle_rounds.specs.declared.round_table.view.Standing.{Standing}
use Rattle.spindle_rounds.specs.declared.round_table.view.Standing.TheVariants.{Away, Inside}
use Rattle.spindle_rounds.specs.declared.round_table.view.Standing.TheVariants.{Waiting, Closing}
use Rattle.spindle_rounds.specs.declared.round_table.view.View.{View}
use Rattle.spindle_rounds.specs.declared.round_table.view.Spot.{Spot}
use Rattle.spindle_rounds.specs.Spans.{Span}
use Rattle.spindle_rounds.specs.RoundSlots.{Discipline, spot_at}
use Rattle.spindle_rounds.specs.RoundRule.{IsFilled}
use Rattle.spindle_rounds.specs.RoundShown.{IsListed}

-- a member that hasn't arrived, has nothing to finish and no number left in its share
abbrev pub IsFreeInside : {N : Type 0} → View N → Type 0
IsFreeInside v = (q : ℕ) × (v.standing ≡ Inside q) × (v.claim ≡ None) × (v.to ≤ v.from)

-- it may claim: it knows the number published, and hasn't seen the stop.
-- A seat that has joined in mid-round doesn't know whether its party saw the stop before it left,
-- so in a round that may stop it looks first
abbrev pub MayClaim : {N : Type 0} → View N → Type 0
MayClaim v = IsFreeInside v × ((n : ℕ) × (v.known.number ≡ Some n)) × (v.known.seen_stop ≡ false)

-- it knows of each range, and of the remainder, that nothing is left there
abbrev pub HasEmptiedAll : {N : Type 0} → View N → Type 0
HasEmptiedAll v = (i : ℕ) → i ≤ v.threads → IsListed i v.known.emptied

-- it knows that nothing of the round is left for it
abbrev pub IsDone : {N : Type 0} → View N → Type 0
IsDone v = (v.known.unpublished ≡ true) ⊎ ((v.known.seen_stop ≡ true) ⊎
    ((v.threads ≡ 0)
    ⊎ ((n : ℕ) × (v.known.number ≡ Some n) × HasEmptiedAll v)))

-- the leader, inside a round in which it has published nothing
abbrev pub MayFill : {N : Type 0} → View N → Type 0
MayFill v = ((q : ℕ) × (v.standing ≡ Inside q)) × (v.known.unpublished ≡ true)

-- and it has stored all words for n jobs on t threads, and put what n jobs need into the slots
abbrev pub MayPublish : {S N : Type 0} → Discipline S N → ℕ → ℕ → View N → Type 0
MayPublish D t n v = (q : ℕ) × (v.standing ≡ Inside q) × (v.known.unpublished ≡ true)
    × IsFilled t n v.known.stored × D.may_publish q n v.board

-- the sense that a party keeps for its next look
abbrev pub HasSense : Standing → ℕ → Type 0
HasSense Away b = Unit {0}
HasSense (Inside q) b = b ≡ q % 2
HasSense (Waiting q quiet) b = b ≡ (q + 1) % 2
HasSense (Closing q member was at) b = b ≡ (q + 1) % 2

-- a member that hasn't arrived, has nothing to finish,
-- and hasn't seen the stop: it may begin the next number of its share
abbrev pub MayBegin : {N : Type 0} → View N → Type 0
MayBegin v = ((q : ℕ) × (v.standing ≡ Inside q)) × (v.claim ≡ None) × (v.known.seen_stop ≡ false)

-- the numbers are those of the seat's share
abbrev pub IsItsShare : {N : Type 0} → Span → View N → Type 0
IsItsShare share v = (share.from ≡ v.from) × (share.to ≡ v.to)

-- it has begun the number k, and may finish it
abbrev pub MayFinish : {N : Type 0} → ℕ → View N → Type 0
MayFinish k v = ((q : ℕ) × (v.standing ≡ Inside q)) × (v.claim ≡ Some k)

-- the slot of the claim k may go back
abbrev pub MayGive : {S N : Type 0} → Discipline S N → ℕ → Me S (View N) → Type 0
MayGive D k m = D.may_give k m.0.note m.1

-- and the round may stop, as it knows
abbrev pub MayStop : {N : Type 0} → ℕ → View N → Type 0
MayStop k v = MayFinish k v × ((n : ℕ) × (v.known.number ≡ Some n)) × (v.known.may_stop ≡ true)

-- a member that hasn't arrived and knows the number published:
-- it may look whether the round was stopped
abbrev pub MaySee : {N : Type 0} → View N → Type 0
MaySee v = ((q : ℕ) × (v.standing ≡ Inside q)) × ((n : ℕ) × (v.known.number ≡ Some n))

-- it has seen the stop, and has nothing to finish: it may put its share back
abbrev pub MayPutBack : {N : Type 0} → View N → Type 0
MayPutBack v = ((q : ℕ) × (v.standing ≡ Inside q)) × (v.claim ≡ None) × (v.known.seen_stop ≡ true)

-- it may arrive
abbrev pub MayArrive : {N : Type 0} → View N → Type 0
MayArrive v = IsFreeInside v × IsDone v

-- whether the party is a member, as it keeps it for the round's end
abbrev pub HasPart : Standing → Bool → Type 0
HasPart Away b = Unit {0}
HasPart (Inside q) b = b ≡ true
HasPart (Waiting q quiet) b = b ≡ true
HasPart (Closing q member was at) b = b ≡ member

-- it has arrived, and its round may have ended by now
abbrev pub IsWaiting : {N : Type 0} → View N → Type 0
IsWaiting v = (q : ℕ) × (quiet : Bool) × (v.standing ≡ Waiting q quiet)

-- and it isn't the leader of a published round
abbrev pub MayLeave : {N : Type 0} → View N → Type 0
MayLeave v = (q : ℕ) × (quiet : Bool) × (v.standing ≡ Waiting q quiet)
    × ((v.leader ≡ false) ⊎ (quiet ≡ true))

-- a member that hasn't arrived and has nothing to finish, but not the leader of a published round
abbrev pub MayExit : {N : Type 0} → View N → Type 0
MayExit v = IsFreeInside v × ((v.leader ≡ false) ⊎ (v.known.unpublished ≡ true))

-- it closes its round
abbrev pub IsClosing : {N : Type 0} → View N → Type 0
IsClosing v = (q : ℕ) × (member was : Bool) × (read : Option ℕ)
    × (v.standing ≡ Closing q member was read)

-- and it has cleared it
abbrev pub HasCleared : {N : Type 0} → View N → Type 0
HasCleared v = (q : ℕ) × (member : Bool) × (read : Option ℕ)
    × (v.standing ≡ Closing q member true read)

-- the leader, having published nothing in its round, may take every slot out
abbrev pub MayTakeOut : {S N : Type 0} → Discipline S N → ℕ → View N → Type 0
MayTakeOut D slots v = MayFill v × ((k : ℕ) → k < slots → D.may_take (spot_at v.board k))

module _ {S N : Type 0} (D : Discipline S N) where
  -- what it holds may go back, one slot after the other
  abbrev pub MayPutAll : ℕ → List (ℕ × S) → List (ℕ × Spot N) → Type 0
  MayPutAll q [] b = Unit {0}
  MayPutAll q (x ∷ c) b = D.may_put (spot_at b x.0) x.1 × MayPutAll q c ((x.0, D.spot_of q x.1) ∷ b)

  -- the leader, having published nothing in its round, may give back the slots that it holds
  abbrev pub MayGiveBack : Me S (View N) → Type 0
  MayGiveBack m = (q : ℕ) × (m.0.standing ≡ Inside q) × (m.0.known.unpublished ≡ true)
      × MayPutAll q m.1 m.0.board
