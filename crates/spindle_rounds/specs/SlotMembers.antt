-- The leader of a lock with slots between two rounds, by what it keeps without its barrier.
use Rattle.std.specs.Prelude.{◌≡◌, ℕ, ◌%◌, List, [], Option, Some, None, true, replicate}
use Rattle.spindle_rounds.specs.declared.barrier.detached_party.DetachedParty.{DetachedParty}
use Rattle.spindle_rounds.specs.declared.round_table.pieces.SlotState.{SlotState}
use Rattle.spindle_rounds.specs.declared.round_table.pieces.SlotState.TheVariants.{Empty}
use Rattle.spindle_rounds.specs.declared.round_table.view.Standing.TheVariants.{Inside}
use Rattle.spindle_rounds.specs.declared.round_table.view.View.{View}
use Rattle.spindle_rounds.specs.RoundSteps.{outsider, round_of}
use Rattle.spindle_rounds.specs.Seating.{IsSeatAt}
use Rattle.spindle_rounds.specs.SlotHands.{AllOut}
use Rattle.spindle_rounds.specs.SlotSteps.{numbered}
use Rattle.spindle_rounds.specs.Working.{IsIdle}
use Rattle.spindle_rounds.specs.declared.threads.tables.Tables.{Tables}
use Rattle.spindle_rounds.specs.Members.{IsSized}

-- so many empty slots, in their order
abbrev pub empty_slots : {P A : Type 0} → ℕ → List (ℕ × SlotState P A)
empty_slots slots = numbered 0 (replicate slots Empty) []

-- the leader stands at these tables, inside a round in which it has published nothing
abbrev pub IsDetachedLeader : {T S N : Type 0} → Tables T S N → DetachedParty T S N → Type 0
IsDetachedLeader tables s = let v = s.seat.me.0 in IsSeatAt tables.round.init s.seat
    × IsSized tables v × (v.leader ≡ true)
    × (v.standing ≡ Inside (round_of v.standing)) × (v.known.unpublished ≡ true) × IsIdle v
    × (s.sense ≡ round_of v.standing % 2) × (s.is_member ≡ true)

-- and so many slots are at its hand, all of them empty
abbrev pub HoldsEmpty : {T P A : Type 0} → ℕ → DetachedParty T (SlotState P A) P → Type 0
HoldsEmpty slots s = (s.seat.me.1 ≡ empty_slots slots) × AllOut slots s.seat.me.0.board

-- what its seat knows, with the trail of its own steps
abbrev pub view_in : {T S N : Type 0} → Option (DetachedParty T S N) → View N
view_in None = outsider 0 true
view_in (Some s) = s.seat.me.0
