-- What a party takes numbers from, and what a claim from there leaves it.
use Rattle.std.specs.Prelude.{◌≡◌, ℕ, ◌<◌, ◌≤◌, Option, Some, None}
use Rattle.atomic_table.specs.Table.{Me}
use Rattle.spindle_rounds.specs.declared.round.claim.Claim.{Claim}
use Rattle.spindle_rounds.specs.declared.round.claim.Claim.TheVariants as claim
use Rattle.spindle_rounds.specs.declared.round.claim.Steal.{Steal}
use Rattle.spindle_rounds.specs.declared.round.claim.Steal.TheVariants as steal
use Rattle.spindle_rounds.specs.declared.round.claiming.Source.{Source}
use Rattle.spindle_rounds.specs.declared.round.claiming.Source.TheVariants.{Range, Longest, Remainder}
use Rattle.spindle_rounds.specs.declared.round.claiming.Taken.{Taken}
use Rattle.spindle_rounds.specs.declared.round.claiming.Taken.TheVariants.{Job, Nothing, Again}
use Rattle.spindle_rounds.specs.declared.round_table.view.View.{View}
use Rattle.spindle_rounds.specs.RoundConditions.{MayClaim, MayFinish, IsItsShare}
use Rattle.spindle_rounds.specs.RoundShown.{IsListed}
use Rattle.spindle_rounds.specs.RoundSlots.{Discipline}
use Rattle.spindle_rounds.specs.RoundViews.{Onward, SeesAsBefore}
use Rattle.spindle_rounds.specs.Spans.{Span}

-- it is one of a table of t threads
abbrev pub IsIn : ℕ → Source → Type 0
IsIn t (Range i) = i < t
IsIn t _ = Unit {0}

-- the seat knows that it is empty
abbrev pub HasEmptied : {N : Type 0} → Source → View N → Type 0
HasEmptied (Range i) v = IsListed i v.known.emptied
HasEmptied Longest v = (i : ℕ) → i < v.threads → IsListed i v.known.emptied
HasEmptied Remainder v = IsListed v.threads v.known.emptied

-- what a claim that answers so took
abbrev pub of_claim : Claim → Taken
of_claim (claim.Job c) = Job c None
of_claim claim.Nothing = Nothing
of_claim claim.Again = Again

-- what a steal that answers so took
abbrev pub of_steal : Steal → Taken
of_steal (steal.Job c share) = Job c (Some share)
of_steal steal.Nothing = Nothing
of_steal steal.Again = Again

-- what the seat has left beside its claim: nothing, or these numbers
abbrev pub HasLeft : {N : Type 0} → Option Span → View N → Type 0
HasLeft None v = v.to ≤ v.from
HasLeft (Some share) v = IsItsShare share v

-- after a claim: the number may be finished, and its slot was taken;
-- or the source was empty; or the seat may claim again
abbrev pub AfterTaking : {S N : Type 0} → Discipline S N → Source → Taken → Me S (View N)
    → Me S (View N) → Type 0
AfterTaking D source (Job c share) m w = Onward m.0 w.0 × SeesAsBefore m.0 w.0 × MayFinish c w.0
    × HasLeft share w.0 × D.took c m.1 w.0.note w.1
AfterTaking D source Nothing m w = Onward m.0 w.0 × SeesAsBefore m.0 w.0 × MayClaim w.0
    × (w.1 ≡ m.1) × HasEmptied source w.0
AfterTaking D source Again m w = Onward m.0 w.0 × SeesAsBefore m.0 w.0 × MayClaim w.0 × (w.1 ≡ m.1)
