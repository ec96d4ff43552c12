-- What is true of every run of the model, whoever makes its steps and in whichever order.
use Rattle.std.specs.Prelude.{◌≡◌, ◌≢◌, ◌⊎◌, ◌↔◌, ℕ, ◌+◌, ◌%◌, ◌<◌, ◌≤◌, true, false}
use Rattle.std.specs.Prelude.{List, [], ◌∷◌, ◌++◌, None}
use Rattle.spindle_parts.specs.State.{In, Arrived, Round, State, times, now, party}
use Rattle.spindle_parts.specs.Steps.{Event, Begin, by}
use Rattle.spindle_parts.specs.Runs.{state, IsRun, IsOnce}
use Rattle.spindle_parts.specs.Words.{sense_of}
use Rattle.spindle_parts.specs.BarrierWord.{word}

-- an ended round: each number begun was below its jobs and has finished once, every number has
-- begun where nothing stopped it, and only a round that may be stopped was
pub record IsWhole (r : Round) : Type 0 where
  pub once : (k : ℕ) → times k r.begun ≤ 1
  pub finished : (k : ℕ) → times k r.finished ≡ times k r.begun
  pub below : (k : ℕ) → 0 < times k r.begun → k < r.jobs
  pub all : r.stopped ≡ false → (k : ℕ) → k < r.jobs → times k r.begun ≡ 1
  pub stops : r.stopped ≡ true → r.stoppable ≡ true

-- what the run says at each event, which follows the events before it
abbrev pub AtEach : (List Event → Event → Type 0) → List Event → Type 0
AtEach P [] = Unit {0}
AtEach P (e ∷ es) = P es e × AtEach P es

-- a begin is of a number below the round's jobs, by a member that is in
abbrev pub BeginsWithin : List Event → Event → Type 0
BeginsWithin es e = (p k : ℕ) → e ≡ Begin p k
    → (k < (now (state es)).jobs) × ((party (state es) p).status ≡ In)

-- where the event ends the round, nothing is published
abbrev pub EndsCleared : List Event → Event → Type 0
EndsCleared es e = (state (e ∷ es)).round ≢ (state es).round → (state es).published ≡ None

-- no event is by the party p
abbrev pub NoneBy : ℕ → List Event → Type 0
NoneBy p [] = Unit {0}
NoneBy p (e ∷ es) = (by e ≢ p) × NoneBy p es

-- the run es goes on by later events, in which the party p takes no step
pub record Rests (es later : List Event) (p : ℕ) : Type 0 where
  pub run : IsRun (later ++ es)
  pub none : NoneBy p later

-- the sense that the barrier word shows
abbrev pub sense_shown : State → ℕ
sense_shown s = sense_of (word s)

-- the sense that a party has from its arrival in round q on: the word's while q + 1 goes on
abbrev pub sense_after : ℕ → ℕ
sense_after q = (q + 1) % 2

-- a party that arrived in the round of s, and took no step up to s': it has arrived in the same
-- round, or is in the next, and its own sense is shown exactly if its round has ended
pub record Waits (s s' : State) (p : ℕ) : Type 0 where
  pub next : ((s'.round ≡ s.round) × ((party s' p).status ≡ Arrived))
      ⊎ ((s'.round ≡ s.round + 1) × ((party s' p).status ≡ In))
  pub sees : (sense_shown s' ≡ sense_after s.round) ↔ (s.round < s'.round)

-- the laws of the run es
pub record RunLaws (es : List Event) : Type 0 where
  -- no number stands twice in begun or finished of any round
  pub once : IsOnce (state es)
  -- each begin is of a number below the round's jobs, by a member that is in
  pub begins : AtEach BeginsWithin es
  -- each ended round is whole
  pub whole : (q : ℕ) → q < (state es).round → IsWhole ((state es).rounds q)
  -- nothing is published when a round ends
  pub cleared : AtEach EndsCleared es
  -- who has arrived, and takes no step, is in the same round or the next, and its sense shows which
  pub waits : (later : List Event) (p : ℕ) → Rests es later p
      → (party (state es) p).status ≡ Arrived → Waits (state es) (state (later ++ es)) p
  -- a member that is in, and takes no step, keeps the round from ending
  pub keeps : (later : List Event) (p : ℕ) → Rests es later p
      → (party (state es) p).status ≡ In → (state (later ++ es)).round ≡ (state es).round

-- the theorem: the laws hold of every run, of any parties and any number of rounds
abbrev pub EveryRun : Type 0
EveryRun = (es : List Event) → IsRun es → RunLaws es
