-- The events of a round: by whom each is, when it is allowed, and what it changes.
use Rattle.std.specs.Prelude.{◌≡◌, ◌≢◌, ◌⊎◌, ℕ, ◌+◌, ◌<◌, ◌≤◌, Bool, true, false, ◌||◌, ◌==◌, List}
use Rattle.std.specs.Prelude.{[], ◌∷◌, ◌++◌, Option, Some, None, if◌then◌else◌}
use Rattle.spindle_parts.specs.Words.{most_parties, most_jobs}
use Rattle.spindle_parts.specs.State.{Status, Out, In, Arrived, Party, State, no_set, put}
use Rattle.spindle_parts.specs.State.{put_party, inside, members, wake, now, party, change}
use Rattle.spindle_parts.specs.State.{change_round, Free, IsUsed}

-- an event, with its party first: a publish has its number of jobs (a round published
-- by the second kind may be stopped), a take a set of numbers, a begin its number
pub data Event : Type 0 where
  Join : (p : ℕ) → Event
  Publish : (p n : ℕ) → Event
  PublishTry : (p n : ℕ) → Event
  Take : (p : ℕ) (some : ℕ → Bool) → Event
  Begin : (p k : ℕ) → Event
  Finish : (p : ℕ) → Event
  Stop : (p : ℕ) → Event
  See : (p : ℕ) → Event
  PutBack : (p : ℕ) → Event
  Arrive : (p : ℕ) → Event
  Leave : (p : ℕ) → Event
  Exit : (p : ℕ) → Event
  Clear : (p : ℕ) → Event
  End : (p : ℕ) → Event

-- the party whose event it is
abbrev pub by : Event → ℕ
by (Join p) = p
by (Publish p n) = p
by (PublishTry p n) = p
by (Take p some) = p
by (Begin p k) = p
by (Finish p) = p
by (Stop p) = p
by (See p) = p
by (PutBack p) = p
by (Arrive p) = p
by (Leave p) = p
by (Exit p) = p
by (Clear p) = p
by (End p) = p

-- the leader, who is in, may publish n jobs
abbrev pub IsPublishable : State → ℕ → ℕ → Type 0
IsPublishable s p n = (p ≡ 0) × ((party s p).status ≡ In) × (s.published ≡ None) × (2 ≤ n)
    × (n ≤ most_jobs)

-- the party p has taken no number and runs no job
abbrev pub IsIdle : State → ℕ → Type 0
IsIdle s p = ((k : ℕ) → (party s p).taken k ≡ false) × ((party s p).running ≡ None)

-- where the event is allowed
abbrev pub Allowed : State → Event → Type 0
Allowed s (Join p) = ((party s p).status ≡ Out) × (s.closer ≡ None)
    × (members s.parties < most_parties)
Allowed s (Publish p n) = IsPublishable s p n
Allowed s (PublishTry p n) = IsPublishable s p n
Allowed s (Take p some) = (s.published ≢ None) × ((party s p).status ≡ In)
    × ((now s).seen p ≡ false) × ((k : ℕ) × (some k ≡ true)) ×
    ((k : ℕ) → some k ≡ true → Free s k)
Allowed s (Begin p k) = ((party s p).status ≡ In) × ((now s).seen p ≡ false)
    × ((party s p).running ≡ None) × ((party s p).taken k ≡ true)
Allowed s (Finish p) = (k : ℕ) × ((party s p).running ≡ Some k)
Allowed s (Stop p) = ((k : ℕ) × ((party s p).running ≡ Some k)) × ((now s).stoppable ≡ true)
Allowed s (See p) = ((party s p).status ≡ In) × ((now s).stopped ≡ true)
Allowed s (PutBack p) = ((party s p).status ≡ In) × ((now s).seen p ≡ true)
    × ((party s p).running ≡ None)
Allowed s (Arrive p) = ((party s p).status ≡ In) × IsIdle s p
    × (s.published ≢ None → IsUsed s)
Allowed s (Leave p) = ((party s p).status ≡ Arrived) × (s.closer ≡ None)
    × (p ≡ 0 → s.published ≡ None)
Allowed s (Exit p) = ((party s p).status ≡ In) × IsIdle s p × (p ≡ 0 → s.published ≡ None)
Allowed s (Clear p) = s.closer ≡ Some p
Allowed s (End p) = (s.closer ≡ Some p) × (s.published ≡ None)

-- the number that a party which finishes has run
abbrev pub ended_by : Option ℕ → List ℕ
ended_by None = []
ended_by (Some k) = k ∷ []

-- the closer once the party p has gone or arrived: p, where nobody is in any more
abbrev pub closer_after : State → List Party → ℕ → Option ℕ
closer_after s ps p = if inside ps == 0 then Some p else s.closer

-- the state with those parties, from which p has gone or arrived
abbrev pub arrived : State → ℕ → List Party → State
arrived s p ps = record {
  round = s.round;
  parties = ps;
  closer = closer_after s ps p;
  published = s.published;
  rounds = s.rounds;
}

-- the state with those parties, from which p has exited:
-- where it was the last member, the round ends
abbrev pub left : State → ℕ → List Party → State
left s p ps = if members ps == 0 then record {
  round = s.round + 1;
  parties = ps;
  closer = s.closer;
  published = s.published;
  rounds = s.rounds;
} else arrived s p ps

-- the party x, but it stands so
abbrev pub with_status : Status → Party → Party
with_status t x = record { status = t; running = x.running; taken = x.taken }

-- n jobs are published, in a round that may be stopped or not
abbrev pub publish : State → Bool → ℕ → State
publish s b n = record {
  round = s.round;
  parties = s.parties;
  closer = s.closer;
  published = Some n;
  rounds = put s.rounds s.round
      (record (now s) { jobs = n; stoppable = b });
}

-- the state after the event
abbrev pub after : State → Event → State
after s (Join p) = change s p (with_status In (party s p))
after s (Publish p n) = publish s false n
after s (PublishTry p n) = publish s true n
after s (Take p some) = change s p
    (record (party s p) { taken = λ k. (party s p).taken k || some k })
after s (Begin p k) = change (change_round s (record (now s) { begun = (now s).begun ++ k ∷ [] })) p
    (record (party s p) { running = Some k; taken = put (party s p).taken k false })
after s (Finish p) =
    change (change_round s
    (record (now s) { finished = (now s).finished ++ ended_by (party s p).running })) p
    (record (party s p) { running = None })
after s (Stop p) = change_round s
    (record (now s) { stopped = true; seen = put (now s).seen p true })
after s (See p) = change_round s (record (now s) { seen = put (now s).seen p true })
after s (PutBack p) = change s p (record (party s p) { taken = no_set })
after s (Arrive p) = arrived s p (put_party s.parties p (with_status Arrived (party s p)))
after s (Leave p) = change s p (with_status Out (party s p))
after s (Exit p) = left s p (put_party s.parties p (with_status Out (party s p)))
after s (Clear p) = record {
  round = s.round;
  parties = s.parties;
  closer = s.closer;
  published = None;
  rounds = s.rounds;
}
after s (End p) = record {
  round = s.round + 1;
  parties = wake s.parties;
  closer = None;
  published = s.published;
  rounds = s.rounds;
}
