-- What is true of the machine after any schedule:
-- the definitions of the model of rounds hold of it.
use Rattle.std.specs.Prelude.{◌≡◌, ◌≢◌, ◌⊎◌, ◌↔◌, ℕ, ◌+◌, ◌*◌, ◌%◌, ◌<◌, ◌≤◌, Bool, true, false}
use Rattle.std.specs.Prelude.{is_none, unwrap_or, List, [], ◌∷◌, ◌++◌, length, Option, Some, None}
use Rattle.std.specs.Prelude.{if◌then◌else◌, ◌==◌}
use Rattle.spindle_parts.specs.State.{In, State, inside, members, now, party, Free}
use Rattle.spindle_parts.specs.Steps.{Event, Allowed}
use Rattle.spindle_parts.specs.Steps as events
use Rattle.spindle_parts.specs.Runs.{state, IsRun}
use Rattle.spindle_parts.specs.EveryRun.{RunLaws}
use Rattle.spindle_parts.specs.Words.{most_parties, most_jobs}
use Rattle.spindle_parts.specs.BarrierWord as barrier
use Rattle.spindle_parts.specs.Machine.{Configuration, initial, word, counter, own, tests, first}
use Rattle.spindle_parts.specs.Machine.{claimed, rested, serve}
use Rattle.spindle_parts.specs.declared.steps.Step.{Step}
use Rattle.spindle_parts.specs.declared.steps.Step.TheVariants.{Join, Publish, PublishTry, Claim}
use Rattle.spindle_parts.specs.declared.steps.Step.TheVariants.{Rest, Finish, Stop, See, Arrive}
use Rattle.spindle_parts.specs.declared.steps.Step.TheVariants.{Leave, Exit, Clear, End}
use Rattle.spindle_parts.specs.declared.steps.Why.{Why}
use Rattle.spindle_parts.specs.declared.steps.Why.TheVariants.{Memory}
use Rattle.spindle_parts.specs.declared.steps.Reply.TheVariants.{Refused}

-- a call of the machine: a step, and whether a growth is granted where it needs one
pub record Call : Type 0 where
  pub step : Step
  pub granted : Bool

-- a number published is at most that of the most jobs; parties and counters are whichever numbers
abbrev pub IsInRange : Step → Type 0
IsInRange (Publish p n) = n ≤ most_jobs
IsInRange (PublishTry p n) = n ≤ most_jobs
IsInRange e = Unit {0}

-- a schedule, the newest call first
abbrev pub IsSchedule : List Call → Type 0
IsSchedule [] = Unit {0}
IsSchedule (c ∷ cs) = IsInRange c.step × IsSchedule cs

-- the set of one number
abbrev pub only : ℕ → ℕ → Bool
only k j = j == k

-- a claim of the job k: a take and a begin in one, the newest first
abbrev pub claim_of : ℕ → ℕ → List Event
claim_of p k = events.Begin p k ∷ events.Take p (only k) ∷ []

-- the events that an accepted step is
abbrev pub events_of : Configuration → Step → List Event
events_of m (Join p) = events.Join p ∷ []
events_of m (Publish p n) = events.Publish p n ∷ []
events_of m (PublishTry p n) = events.PublishTry p n ∷ []
events_of m (Claim p t) = claim_of p (claimed m t)
events_of m (Rest p) = claim_of p (rested m)
events_of m (Finish p) = events.Finish p ∷ []
events_of m (Stop p) = events.Stop p ∷ []
events_of m (See p) = events.See p ∷ []
events_of m (Arrive p) = events.Arrive p ∷ []
events_of m (Leave p) = events.Leave p ∷ []
events_of m (Exit p) = events.Exit p ∷ []
events_of m (Clear p) = events.Clear p ∷ []
events_of m (End p) = events.End p ∷ []

-- why the call is refused, if it is
abbrev pub refusal : Configuration → Call → Option Why
refusal m c = first (tests m c.granted c.step)

-- a call whose growth is granted
abbrev pub granting : Step → Call
granting e = record { step = e; granted = true }

-- a call whose growth isn't granted
abbrev pub refusing : Step → Call
refusing e = record { step = e; granted = false }

-- without memory the step is refused as with it, but for a join that would be accepted
abbrev pub IsRefusedForMemory : Configuration → Step → Type 0
IsRefusedForMemory m (Join p) =
    refusal m (refusing (Join p)) ≡ Some (unwrap_or (refusal m (granting (Join p))) Memory)
IsRefusedForMemory m e = refusal m (refusing e) ≡ refusal m (granting e)

-- the machine after the calls, from m on
abbrev pub played : Configuration → List Call → Configuration
played m [] = m
played m (c ∷ cs) = (serve (played m cs) c.granted c.step).0

-- the events of the call, if it is accepted
abbrev pub accepted : Configuration → Call → List Event
accepted m c = if is_none (refusal m c) then events_of m c.step else []

-- the events of the accepted calls, from m on, the newest first
abbrev pub history : Configuration → List Call → List Event
history m [] = []
history m (c ∷ cs) = accepted (played m cs) c ++ history m cs

-- job k is among the last `count t` of the own jobs of some thread t,
-- of which each thread has as many, or among the last
-- `rest` of all n
abbrev pub StandsFor : (threads own : ℕ) (count : ℕ → ℕ) (rest n k : ℕ) → Type 0
StandsFor threads own count rest n k = ((t : ℕ) × (t < threads) × (k < own * t + own)
    × (own * t + own ≤ k + count t))
    ⊎ ((k < n) × (n ≤ k + rest))

-- the counters and the remainder stand for job k, where n are published
abbrev pub IsLeft : Configuration → ℕ → ℕ → Type 0
IsLeft m n k = StandsFor (length m.counters) (own m n) (counter m) m.remainder n k

-- while n jobs are published, what is left is what is free
pub record Counts (m : Configuration) (s : State) (n : ℕ) : Type 0 where
  pub own_at_most : (t : ℕ) → t < length m.counters → counter m t ≤ own m n
  pub rest_at_most : m.remainder ≤ n % length m.counters
  pub free_is_left : (k : ℕ) → Free s k → IsLeft m n k
  pub left_is_free : (k : ℕ) → IsLeft m n k → Free s k
  pub finished : m.finished ≡ length (now s).finished

-- the machine shows the state
pub record Shows (m : Configuration) (s : State) : Type 0 where
  pub status : (p : ℕ) → (m.seat p).status ≡ (party s p).status
  pub running : (p : ℕ) → (m.seat p).running ≡ (party s p).running
  pub seen : (p : ℕ) → (m.seat p).seen ≡ (now s).seen p
  pub untaken : (p k : ℕ) → (party s p).taken k ≡ false
  pub inside : m.inside ≡ inside s.parties
  pub members : m.members ≡ members s.parties
  pub sense : (if m.sense then 1 else 0) ≡ s.round % 2
  pub closer : m.closer ≡ s.closer
  pub published : m.published ≡ s.published
  pub stoppable : m.stoppable ≡ (now s).stoppable
  pub stopped : m.stopped ≡ (now s).stopped
  pub counts : (n : ℕ) → s.published ≡ Some n → Counts m s n

-- the party p may take and begin a free number
pub record MayBegin (s : State) (p : ℕ) : Type 0 where
  pub published : s.published ≢ None
  pub is_in : (party s p).status ≡ In
  pub idle : (party s p).running ≡ None
  pub unseen : (now s).seen p ≡ false

-- the definitions allow the step; for a claim:
-- they allow to begin, and its counter is there and isn't 0
abbrev pub IsFair : Configuration → State → Step → Type 0
IsFair m s (Join p) = Allowed s (events.Join p)
IsFair m s (Publish p n) = Allowed s (events.Publish p n)
IsFair m s (PublishTry p n) = Allowed s (events.PublishTry p n)
IsFair m s (Claim p t) = MayBegin s p × (t < length m.counters) × (0 < counter m t)
IsFair m s (Rest p) = MayBegin s p × (0 < m.remainder)
IsFair m s (Finish p) = Allowed s (events.Finish p)
IsFair m s (Stop p) = Allowed s (events.Stop p)
IsFair m s (See p) = Allowed s (events.See p)
IsFair m s (Arrive p) = Allowed s (events.Arrive p)
IsFair m s (Leave p) = Allowed s (events.Leave p)
IsFair m s (Exit p) = Allowed s (events.Exit p)
IsFair m s (Clear p) = Allowed s (events.Clear p)
IsFair m s (End p) = Allowed s (events.End p)

-- the fresh machine with so many counters, after the calls
abbrev pub machine : ℕ → List Call → Configuration
machine threads calls = played (initial threads) calls

-- the run of the accepted calls
abbrev pub run_of : ℕ → List Call → List Event
run_of threads calls = history (initial threads) calls

-- the accepted steps of the later calls go on with the run es, and the word is the barrier word of
-- the state that it ends in
pub record GoesOn (m : Configuration) (es : List Event) (later : List Call) : Type 0 where
  pub run : IsRun (history m later ++ es)
  pub word_is : word (played m later) ≡ barrier.word (state (history m later ++ es))

-- what is true of the machine m after a schedule whose accepted steps are the events es
pub record Laws (threads : ℕ) (m : Configuration) (es : List Event) : Type 0 where
  -- the accepted steps are a run, for which the laws of every run hold
  pub run : IsRun es
  pub lawful : RunLaws es
  -- the machine shows the state that the run ends in, and the word is that state's barrier word
  pub shows : Shows m (state es)
  pub word_is : word m ≡ barrier.word (state es)
  -- the counters stay as many as they were made
  pub counters : length m.counters ≡ threads
  -- memory aside, the next step is accepted exactly where it is fair, and refused where it isn't
  pub exact : (e : Step) → IsInRange e → (refusal m (granting e) ≡ None) ↔ IsFair m (state es) e
  -- a growth that isn't granted refuses a join that is fair, and nothing else
  pub memory : (e : Step) → IsRefusedForMemory m e
  -- a refused call changes nothing, and its reason is the first test that is true
  pub refused : (c : Call) (why : Why) → (serve m c.granted c.step).1 ≡ Refused why
      → (refusal m c ≡ Some why) × ((serve m c.granted c.step).0 ≡ m)
  -- whatever calls follow, this run goes on:
  -- its laws say what a party sees that makes no step in them
  pub goes_on : (later : List Call) → IsSchedule later → GoesOn m es later

-- the theorem: the laws hold after every schedule,
-- for any number of counters from 1 to the most parties
abbrev pub EverySchedule : Type 0
EverySchedule = (threads : ℕ) (calls : List Call) → 0 < threads → threads ≤ most_parties
    → IsSchedule calls
    → Laws threads (machine threads calls) (run_of threads calls)
