-- What a helper that waits is told, and where it is after a round.
use Rattle.std.specs.Prelude.{◌≡◌, ℕ, false}
use Rattle.atomic_table.specs.declared.shared.Seat.{Seat}
use Rattle.spindle_rounds.specs.declared.threads.member.HelperStatus.{HelperStatus}
use Rattle.spindle_rounds.specs.declared.threads.member.HelperStatus.TheVariants.{In, Out}
use Rattle.spindle_rounds.specs.declared.threads.tables.Tables.{Tables}
use Rattle.spindle_rounds.specs.declared.threads.helper_waits.News.{News}
use Rattle.spindle_rounds.specs.declared.threads.helper_waits.News.TheVariants.{Exit, Round, Requests}
use Rattle.spindle_rounds.specs.Members.{IsOut, party_view}
use Rattle.spindle_rounds.specs.declared.round_table.view.View.{View}
use Rattle.spindle_rounds.specs.declared.barrier.Barrier.{Barrier}
use Rattle.spindle_rounds.specs.declared.barrier.waiting.ExitStatus.{ExitStatus}
use Rattle.spindle_rounds.specs.declared.barrier.waiting.ExitStatus.TheVariants as status
use Rattle.spindle_rounds.specs.Seating.{IsSameSeat}
use Rattle.spindle_rounds.specs.Holding.{Keeps}
use Rattle.spindle_rounds.specs.Passing.{InNext, WentOut}
use Rattle.spindle_rounds.specs.Working.{OnPublished}

-- where it is told of a round, its seat is at work in that round
abbrev pub IsNews : {N : Type 0} → View N → News → Type 0
IsNews v Exit = Unit {0}
IsNews v (Round published) = OnPublished published.jobs published.may_stop v
IsNews v Requests = Unit {0}

-- a helper after a round: a member, under its number, or out of the barrier
abbrev pub IsHelperAt : {T S N : Type 0} → Tables T S N → (thread : ℕ) → HelperStatus T S N → Type 0
IsHelperAt tables thread (In member) = (member.tables.now ≡ tables) × (member.thread ≡ thread)
    × ((party_view member.barrier).leader ≡ false)
IsHelperAt tables thread (Out seat) = IsOut tables seat × (seat.me.0.leader ≡ false)

-- its seat
abbrev pub seat_of : {T S N : Type 0} → HelperStatus T S N → Seat S (View N)
seat_of (In member) = member.barrier.seat
seat_of (Out seat) = seat

-- a member that has waited for its round's end:
-- it is inside the next round, or it is out of the barrier
abbrev pub EndedOrLeft : {T S N : Type 0} → Barrier T S N → ExitStatus T S N → Type 0
EndedOrLeft b (status.Exit seat) = IsSameSeat b.seat seat × WentOut b.seat.me seat.me
EndedOrLeft b (status.Remain c) = Keeps b c × InNext b.seat.me c.seat.me
