-- A party of a round between two of its calls: out, or a member that hasn't arrived.
use Rattle.std.specs.Prelude.{◌≡◌, Bool}
use Rattle.atomic_table.specs.declared.shared.Seat.{Seat}
use Rattle.spindle_rounds.specs.declared.barrier.Barrier.{Barrier}
use Rattle.spindle_rounds.specs.declared.round.Round.{Round}
use Rattle.spindle_rounds.specs.declared.round_table.view.Standing.TheVariants.{Away}
use Rattle.spindle_rounds.specs.declared.round_table.view.View.{View}
use Rattle.spindle_rounds.specs.Seating.{IsSeatAt}
use Rattle.spindle_rounds.specs.Holding.{IsHeld}
use Rattle.spindle_rounds.specs.RoundConditions.{IsFreeInside}
use Rattle.spindle_rounds.specs.Working.{IsIdle}

module _ {T S N : Type 0} where
  -- the leader, or another party, is out, with nothing to finish and no number left in its share
  abbrev pub IsOut : Round T S N → Bool → Seat S (View N) → Type 0
  IsOut round leads s = IsSeatAt round.init s × (s.me.0.threads ≡ round.init.threads)
      × (s.me.0.leader ≡ leads) × IsIdle s.me.0 ×
      (s.me.0.standing ≡ Away)

  -- it is a member that hasn't arrived
  abbrev pub IsIn : Round T S N → Bool → Barrier T S N → Type 0
  IsIn round leads b = IsHeld b × IsSeatAt round.init b.seat
      × (b.seat.me.0.threads ≡ round.init.threads) ×
      (b.seat.me.0.leader ≡ leads) × IsFreeInside b.seat.me.0
