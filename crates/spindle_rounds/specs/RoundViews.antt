-- What a party's calls in one round keep of what its seat knows,
-- for the loops of those who call them.
use Rattle.std.specs.Prelude.{◌≡◌, ℕ, ◌<◌, Bool, List, [], ◌∷◌, Some}
use Rattle.spindle_parts.specs.declared.trail.Trace.{Trace}
use Rattle.spindle_rounds.specs.declared.round_table.view.Kind.{Kind}
use Rattle.spindle_rounds.specs.declared.round_table.view.Standing.TheVariants.{Inside}
use Rattle.spindle_rounds.specs.declared.round_table.view.View.{View}
use Rattle.spindle_rounds.specs.declared.round.claim.Claim.{Claim}
use Rattle.spindle_rounds.specs.declared.round.claim.Claim.TheVariants as claim
use Rattle.spindle_rounds.specs.declared.round.claim.Steal.{Steal}
use Rattle.spindle_rounds.specs.declared.round.claim.Steal.TheVariants as steal
use Rattle.spindle_rounds.specs.RoundShown.{Deed, Showed, Stopped, deeds_of, IsListed}
use Rattle.spindle_rounds.specs.RoundConditions.{MayClaim, MayFinish, IsItsShare}

-- the publishes among deeds
abbrev pub shown_of : List Deed → List Deed
shown_of [] = []
shown_of (Showed r n b ∷ ds) = Showed r n b ∷ shown_of ds
shown_of (_ ∷ ds) = shown_of ds

-- the publishes of a trail, the newest first
abbrev pub published_of : List (Trace Kind) → List Deed
published_of trail = shown_of (deeds_of trail)

-- the stops among deeds
abbrev pub stopped_of : List Deed → List Deed
stopped_of [] = []
stopped_of (Stopped r k ∷ ds) = Stopped r k ∷ stopped_of ds
stopped_of (_ ∷ ds) = stopped_of ds

-- the stops of a trail, the newest first
abbrev pub stops_of : List (Trace Kind) → List Deed
stops_of trail = stopped_of (deeds_of trail)

-- the seat is inside the round of n jobs, as it knows
pub record AtWork {N : Type 0} (n : ℕ) (stoppable : Bool) (v : View N) : Type 0 where
  pub inside : (q : ℕ) × (v.standing ≡ Inside q)
  pub number : v.known.number ≡ Some n
  pub may_stop : v.known.may_stop ≡ stoppable

-- the seat goes on in the same round: it publishes nothing, and what it knows to be empty stays so
pub record Onward {N : Type 0} (v w : View N) : Type 0 where
  pub leader : w.leader ≡ v.leader
  pub threads : w.threads ≡ v.threads
  pub standing : w.standing ≡ v.standing
  pub number : w.known.number ≡ v.known.number
  pub may_stop : w.known.may_stop ≡ v.known.may_stop
  pub unpublished : w.known.unpublished ≡ v.known.unpublished
  pub emptied : (i : ℕ) → IsListed i v.known.emptied → IsListed i w.known.emptied
  pub laid : w.laid ≡ v.laid
  pub board : w.board ≡ v.board
  pub published : published_of w.trail ≡ published_of v.trail

-- the seat has stopped nothing more
abbrev pub StopsAsBefore : {N : Type 0} → View N → View N → Type 0
StopsAsBefore v w = stops_of w.trail ≡ stops_of v.trail

-- nor has it seen more of a stop
abbrev pub SeesAsBefore : {N : Type 0} → View N → View N → Type 0
SeesAsBefore v w = (w.known.seen_stop ≡ v.known.seen_stop) × StopsAsBefore v w

-- the seat's share is as before
abbrev pub SharesAsBefore : {N : Type 0} → View N → View N → Type 0
SharesAsBefore v w = (w.from ≡ v.from) × (w.to ≡ v.to)

-- after a claim: the number may be finished, or else the seat may claim again
abbrev pub AfterClaim : {N : Type 0} → Claim → View N → View N → Type 0
AfterClaim (claim.Job c) v w = Onward v w × SeesAsBefore v w × SharesAsBefore v w × MayFinish c w
AfterClaim claim.Nothing v w = Onward v w × SeesAsBefore v w × SharesAsBefore v w × MayClaim w
AfterClaim claim.Again v w = Onward v w × SeesAsBefore v w × SharesAsBefore v w × MayClaim w

-- after a steal: the same, with a share; or every range was read as empty; or it may claim again
abbrev pub AfterSteal : {N : Type 0} → ℕ → Steal → View N → View N → Type 0
AfterSteal t (steal.Job c share) v w = Onward v w × SeesAsBefore v w × MayFinish c w
    × IsItsShare share w
AfterSteal t steal.Nothing v w = Onward v w × SeesAsBefore v w × SharesAsBefore v w × MayClaim w
    × ((i : ℕ) → i < t → IsListed i w.known.emptied)
AfterSteal t steal.Again v w = Onward v w × SeesAsBefore v w × SharesAsBefore v w × MayClaim w
