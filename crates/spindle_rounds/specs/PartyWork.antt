-- What a party's work in a round keeps of its seat.
use Rattle.std.specs.Prelude.{◌≡◌, ℕ, ◌+◌, List, None, Some, false}
use Rattle.atomic_table.specs.Table.{Me}
use Rattle.atomic_table.specs.declared.shared.Seat.{Seat}
use Rattle.spindle_rounds.specs.declared.round.Round.{Round}
use Rattle.spindle_rounds.specs.declared.round.publishing.PublishedRound.{PublishedRound}
use Rattle.spindle_rounds.specs.declared.round_table.view.View.{View}
use Rattle.spindle_rounds.specs.RoundConditions.{HasEmptiedAll}
use Rattle.spindle_rounds.specs.RoundSlots.{Discipline}
use Rattle.spindle_rounds.specs.RoundViews.{Onward, SeesAsBefore, SharesAsBefore}
use Rattle.spindle_rounds.specs.Seating.{IsSeatAt, IsSameSeat}
use Rattle.spindle_rounds.specs.Working.{OnPublished}

-- the seat is one of the round's table, and at work in the published round
pub record IsAtPublished {T S N : Type 0} (round : Round T S N) (published : PublishedRound)
    (s : Seat S (View N)) : Type 0 where
  pub seated : IsSeatAt round.init s
  pub sized : s.me.0.threads ≡ round.init.threads
  pub on : OnPublished published.jobs published.may_stop s.me.0

-- it has gone on in its round
pub record WentOn {T S N : Type 0} (round : Round T S N) (published : PublishedRound)
    (s t : Seat S (View N)) : Type 0 where
  pub same : IsSameSeat s t
  pub on : Onward s.me.0 t.me.0
  pub at : IsAtPublished round published t

-- the number k has begun, and its slot was taken into hands of which this held before
abbrev pub HasTaken : {S N : Type 0} → Discipline S N → (List (ℕ × S) → Type 0) → ℕ → Me S (View N)
    → Type 0
HasTaken {S = S} D Held k m = (before : List (ℕ × S)) × Held before × D.took k before m.0.note m.1

-- the claim is finished, before which so many were; only in a round that may stop the seat may have
-- seen more than before. Where its job is the last of the round, the seat knows that nothing is left
abbrev pub HasFinished : {N : Type 0} → ℕ → View N → View N → Type 0
HasFinished found v w = Onward v w × (v.known.may_stop ≡ false → SeesAsBefore v w)
    × SharesAsBefore v w × (w.claim ≡ None) × (v.known.number ≡ Some (found + 1) → HasEmptiedAll w)
