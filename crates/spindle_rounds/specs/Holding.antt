-- What a barrier's party holds: the seat that it was made with, and what it keeps beside it.
use Rattle.std.specs.Prelude.{◌≡◌, ◌⊎◌, ℕ, ◌<◌, List, true, false}
use Rattle.spindle_rounds.specs.declared.barrier.Barrier.{Barrier}
use Rattle.spindle_rounds.specs.declared.barrier.membership.Leave.{Leave}
use Rattle.spindle_rounds.specs.declared.barrier.membership.Leave.TheVariants as leave
use Rattle.spindle_rounds.specs.declared.barrier.membership.Exit.{Exit}
use Rattle.spindle_rounds.specs.declared.barrier.membership.Exit.TheVariants as exit
use Rattle.spindle_rounds.specs.declared.barrier.steps.AfterEnd.{AfterEnd}
use Rattle.spindle_rounds.specs.declared.barrier.steps.AfterEnd.TheVariants as end
use Rattle.spindle_rounds.specs.declared.barrier.steps.Arrival.TheVariants as arrival
use Rattle.spindle_rounds.specs.declared.barrier.steps.LeaveStep.TheVariants as left
use Rattle.spindle_rounds.specs.declared.barrier.steps.ExitStep.TheVariants as gone
use Rattle.spindle_rounds.specs.declared.barrier.waiting.ExitStatus.{ExitStatus}
use Rattle.spindle_rounds.specs.declared.barrier.waiting.ExitStatus.TheVariants as status
use Rattle.spindle_rounds.specs.Seating.{IsSeatAt, IsSameSeat}
use Rattle.spindle_rounds.specs.Passing.{Stayed, InNext, LeftWaiting, Turned, TurnsOver}
use Rattle.atomic_table.specs.Table.{Me}
use Rattle.atomic_table.specs.declared.shared.Seat.{Seat}
use Rattle.spindle_rounds.specs.declared.round_table.view.View.{View}
use Rattle.spindle_rounds.specs.RoundConditions.{HasSense, HasPart}
use Rattle.spindle_rounds.specs.RoundAnswers.{ArrivedBy, LeftBy, ExitedBy, EndedBy}

module _ {T S N : Type 0} where
  -- it holds a seat of its own table, with that seat's sense, and knows whether it is a member
  abbrev pub IsHeld : Barrier T S N → Type 0
  IsHeld b = IsSeatAt b.init.now b.seat × HasSense b.seat.me.0.standing b.sense
      × HasPart b.seat.me.0.standing b.is_member

  -- the party that joined with that seat, and was given that number
  abbrev pub IsPartyOf : Seat S (View N) → (thread_id : ℕ) → Barrier T S N → Type 0
  IsPartyOf s thread_id b = (b.seat.id ≡ s.id) × (b.thread_id ≡ thread_id)

  -- the same party at the same barrier
  abbrev pub IsSameParty : Barrier T S N → Barrier T S N → Type 0
  IsSameParty b c = (c.init ≡ b.init) × (c.thread_id ≡ b.thread_id) × (c.seat.id ≡ b.seat.id)

  -- a party whose step hands its barrier back
  abbrev pub Keeps : Barrier T S N → Barrier T S N → Type 0
  Keeps b c = IsHeld c × IsSameParty b c

  -- what came of an attempt to leave, and who holds the seat after it
  abbrev pub LeaveTold : Barrier T S N → Leave T S N → Type 0
  LeaveTold b (leave.Left s) = IsSameSeat b.seat s × LeftBy b.sense left.Left b.seat.me s.me
  LeaveTold b (leave.Ended c) = Keeps b c × LeftBy b.sense left.Ended b.seat.me c.seat.me
  LeaveTold b (leave.Closing c) = Keeps b c × LeftBy b.sense left.Closing b.seat.me c.seat.me
  LeaveTold b (leave.Again c) = Keeps b c × LeftBy b.sense left.Again b.seat.me c.seat.me

  -- of an attempt to exit
  abbrev pub ExitTold : Barrier T S N → Exit T S N → Type 0
  ExitTold b (exit.Gone s) = IsSameSeat b.seat s × ExitedBy gone.Gone b.seat.me s.me
  ExitTold b (exit.Closer c) = Keeps b c × ExitedBy gone.Closer b.seat.me c.seat.me
  ExitTold b (exit.Again c) = Keeps b c × ExitedBy gone.Again b.seat.me c.seat.me

  -- what the closer has after the end: a member goes on, and one that had exited is out
  abbrev pub EndTold : Barrier T S N → AfterEnd T S N → Type 0
  EndTold b (end.Next c) = Keeps b c × (b.is_member ≡ true) × EndedBy b.seat.me c.seat.me
  EndTold b (end.Gone s) = IsSameSeat b.seat s × (b.is_member ≡ false) × EndedBy b.seat.me s.me

  -- a party that has arrived stayed until its round ended, or left
  abbrev pub AwaitTold : Barrier T S N → ExitStatus T S N → Type 0
  AwaitTold b (status.Exit s) = IsSameSeat b.seat s × ((u : Me S (View N)) × Stayed b.seat.me u
      × LeftBy b.sense left.Left u s.me)
  AwaitTold b (status.Remain c) = Keeps b c × InNext b.seat.me c.seat.me

  -- a party arrived, and then its round ended, or it was no closer and left
  abbrev pub StatusTold : Barrier T S N → ExitStatus T S N → Type 0
  StatusTold b (status.Exit s) = IsSameSeat b.seat s × LeftWaiting b.seat.me s.me
  StatusTold b (status.Remain c) = Keeps b c × InNext b.seat.me c.seat.me

  -- its last turn: it left, as the answer n told it to, or its round had ended
  abbrev pub TurnsLast : ℕ → ℕ → Me S (View N) → ExitStatus T S N → Type 0
  TurnsLast sense n m (status.Exit s) = (0 < n) × LeftBy sense left.Left m s.me
  TurnsLast sense n m (status.Remain c) = TurnsOver sense n m c.seat.me

  -- it made one turn for each answer of the closure f, and no other step
  abbrev pub WaitTold : {F : Type 0} → (F → ℕ → F → Type 0) → F → ℕ → Me S (View N)
      → ExitStatus T S N → Type 0
  WaitTold {F = F} answers f sense m status = (ns : List ℕ) × (n : ℕ) × (g h : F)
      × (u : Me S (View N)) × Turned answers sense ns f g m u × answers g n h
      × TurnsLast sense n u status

  -- the party remains
  abbrev pub Remains : ExitStatus T S N → Type 0
  Remains (status.Exit s) = ⊥
  Remains (status.Remain c) = Unit {0}

  -- a party arrived and made its turns, or it was the closer, which remains
  abbrev pub TurnsTold : {F : Type 0} → (F → ℕ → F → Type 0) → F → Barrier T S N → ExitStatus T S N
      → Type 0
  TurnsTold answers f b status = ((a : Me S (View N)) × (sense : ℕ) × HasSense a.0.standing sense
      × ArrivedBy arrival.Arrived b.seat.me a
      × WaitTold answers f sense a status)
      ⊎ ((a : Me S (View N)) × ArrivedBy arrival.Closer b.seat.me a × Remains status)
