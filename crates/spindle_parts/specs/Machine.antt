-- The machine as plain data: the tests of each step in order,
-- what an accepted step changes, and what it answers.
use Rattle.std.specs.Prelude.{ℕ, ◌+◌, ◌*◌, ◌-◌, ◌/◌, ◌%◌, Bool, true, false, not, ◌&&◌, ◌==◌}
use Rattle.std.specs.Prelude.{nat_lt, List, [], ◌∷◌, ◌++◌, length, sum, replicate, slice_index}
use Rattle.std.specs.Prelude.{slice_set, Option, Some, None, is_some, unwrap_or, if◌then◌else◌}
use Rattle.spindle_parts.specs.Words.{one_member, sense_bit, most_parties}
use Rattle.spindle_parts.specs.State.{Status, Out, In, Arrived, put, waking}
use Rattle.spindle_parts.specs.declared.steps.Step.{Step}
use Rattle.spindle_parts.specs.declared.steps.Step.TheVariants.{Join, Publish, PublishTry, Claim}
use Rattle.spindle_parts.specs.declared.steps.Step.TheVariants.{Rest, Finish, Stop, See, Arrive}
use Rattle.spindle_parts.specs.declared.steps.Step.TheVariants.{Leave, Exit, Clear, End}
use Rattle.spindle_parts.specs.declared.steps.Why.{Why}
use Rattle.spindle_parts.specs.declared.steps.Why.TheVariants.{Member, Full, Closing, Memory}
use Rattle.spindle_parts.specs.declared.steps.Why.TheVariants.{NotLeader, NotIn, Published, Count}
use Rattle.spindle_parts.specs.declared.steps.Why.TheVariants.{NotPublished, Holding, Stopped}
use Rattle.spindle_parts.specs.declared.steps.Why.TheVariants.{Range, Empty, Idle, Fixed, Going}
use Rattle.spindle_parts.specs.declared.steps.Why.TheVariants.{Left, NotWaiting, Leader, NotCloser}
use Rattle.spindle_parts.specs.declared.steps.Reply.{Reply}
use Rattle.spindle_parts.specs.declared.steps.Reply.TheVariants.{Word, Job, Refused}

-- what the machine knows of a party: how it stands,
-- the job that it runs, whether it has seen the round's stop
pub record Seat : Type 0 where
  pub status : Status
  pub running : Option ℕ
  pub seen : Bool

-- the machine between two steps
pub record Configuration : Type 0 where
  pub seat : ℕ → Seat
  pub inside : ℕ
  pub members : ℕ
  pub sense : Bool
  pub closer : Option ℕ
  pub published : Option ℕ
  pub stoppable : Bool
  pub stopped : Bool
  pub finished : ℕ
  pub counters : List ℕ
  pub remainder : ℕ

-- a party that never came
abbrev pub no_seat : Seat
no_seat = record { status = Out; running = None; seen = false }

-- the fresh machine with a counter for each thread
abbrev pub initial : ℕ → Configuration
initial threads = record {
  seat = λ _. no_seat;
  inside = 0;
  members = 0;
  sense = false;
  closer = None;
  published = None;
  stoppable = false;
  stopped = false;
  finished = 0;
  counters = replicate threads 0;
  remainder = 0;
}

-- is it out?
abbrev pub is_out : Status → Bool
is_out Out = true
is_out In = false
is_out Arrived = false

-- is it in?
abbrev pub is_inside : Status → Bool
is_inside Out = false
is_inside In = true
is_inside Arrived = false

-- has it arrived?
abbrev pub is_waiting : Status → Bool
is_waiting Out = false
is_waiting In = false
is_waiting Arrived = true

-- is it the party p?
abbrev pub is_party : Option ℕ → ℕ → Bool
is_party None p = false
is_party (Some c) p = c == p

module _ (m : Configuration) where
  -- how the party stands
  abbrev pub status : ℕ → Status
  status p = (m.seat p).status

  -- does the party run a job?
  abbrev pub is_running : ℕ → Bool
  is_running p = is_some (m.seat p).running

  -- the counter of the thread t
  abbrev pub counter : ℕ → ℕ
  counter t = slice_index m.counters t

  -- the jobs of each thread's own, of n
  abbrev pub own : ℕ → ℕ
  own n = n / length m.counters

  -- the jobs that counters and remainder stand for
  abbrev pub left : ℕ
  left = sum m.counters + m.remainder

  -- the barrier word
  abbrev pub word : ℕ
  word = m.inside + one_member * m.members + (if m.sense then sense_bit else 0)

  -- tests of a publish of n jobs
  abbrev pub publish_tests : ℕ → ℕ → List (Why × Bool)
  publish_tests p n = (NotLeader, not (p == 0)) ∷ (NotIn, not (is_inside (status p)))
      ∷ (Published, is_some m.published) ∷ (Count, nat_lt n 2) ∷ []

  -- tests of a claim, from whichever place
  abbrev pub claim_tests : ℕ → List (Why × Bool)
  claim_tests p = (NotIn, not (is_inside (status p))) ∷ (NotPublished, not (is_some m.published))
      ∷ (Holding, is_running p) ∷ (Stopped, (m.seat p).seen) ∷ []

  -- each step's tests, in the order of the step table: the first that is true refuses the step
  abbrev pub tests : (granted : Bool) → Step → List (Why × Bool)
  tests granted (Join p) = (Member, not (is_out (status p))) ∷ (Full, m.members == most_parties)
      ∷ (Closing, is_some m.closer) ∷ (Memory, not granted) ∷ []
  tests granted (Publish p n) = publish_tests p n
  tests granted (PublishTry p n) = publish_tests p n
  tests granted (Claim p t) = claim_tests p
      ++ ((Range, not (nat_lt t (length m.counters))) ∷ (Empty, counter t == 0) ∷ [])
  tests granted (Rest p) = claim_tests p ++ ((Empty, m.remainder == 0) ∷ [])
  tests granted (Finish p) = (Idle, not (is_running p)) ∷ []
  tests granted (Stop p) = (Idle, not (is_running p)) ∷ (Fixed, not m.stoppable) ∷ []
  tests granted (See p) = (NotIn, not (is_inside (status p)))
      ∷ (NotPublished, not (is_some m.published))
      ∷ (Going, not m.stopped) ∷ []
  tests granted (Arrive p) = (NotIn, not (is_inside (status p))) ∷ (Holding, is_running p)
      ∷ (Left, is_some m.published && not m.stopped && nat_lt 0 left) ∷ []
  tests granted (Leave p) = (NotWaiting, not (is_waiting (status p))) ∷ (Closing, is_some m.closer)
      ∷ (Leader, (p == 0) && is_some m.published) ∷ []
  tests granted (Exit p) = (NotIn, not (is_inside (status p))) ∷ (Holding, is_running p)
      ∷ (Leader, (p == 0) && is_some m.published) ∷ []
  tests granted (Clear p) = (NotCloser, not (is_party m.closer p)) ∷ []
  tests granted (End p) = (NotCloser, not (is_party m.closer p)) ∷ (Published, is_some m.published)
      ∷ []

  -- the party p stands so
  abbrev pub standing : ℕ → Status → ℕ → Seat
  standing p t = put m.seat p (record (m.seat p) { status = t })

  -- the party p runs that
  abbrev pub with_running : ℕ → Option ℕ → ℕ → Seat
  with_running p k = put m.seat p (record (m.seat p) { running = k })

  -- the party p has seen the stop
  abbrev pub with_seen : ℕ → ℕ → Seat
  with_seen p = put m.seat p (record (m.seat p) { seen = true })

  -- the next job that a claim of counter t gets: its thread's own end, less the counter
  abbrev pub claimed : ℕ → ℕ
  claimed t = let n = unwrap_or m.published 0 in own n * t + own n - counter t

  -- the job that a claim of the remainder gets
  abbrev pub rested : ℕ
  rested = unwrap_or m.published 0 - m.remainder

  -- n jobs are published: each counter stands for its thread's own, the remainder for the others
  abbrev pub publishing : ℕ → Bool → Configuration
  publishing n b = record m {
    published = Some n;
    stoppable = b;
    finished = 0;
    counters = replicate (length m.counters) (own n);
    remainder = n % length m.counters;
  }

  -- the round ends: who has arrived is in, and nobody has seen a stop
  abbrev pub turned : Configuration
  turned = record m {
    seat = λ p. record { status = waking (status p); running = (m.seat p).running; seen = false };
    inside = m.members;
    sense = not m.sense;
    closer = None;
    stoppable = false;
    stopped = false;
  }

  -- who leaves nobody in is the closer
  abbrev pub closing : ℕ → Configuration
  closing p = record m { closer = if m.inside == 0 then Some p else m.closer }

module _ (m : Configuration) where
  -- the party p is gone, and the round ends where it was the last member
  abbrev pub exited : ℕ → Configuration
  exited p = let gone : Configuration = record m {
    seat = standing m p Out;
    inside = m.inside - 1;
    members = m.members - 1;
  } in
      if gone.members == 0 then turned gone else closing gone p

  -- what an accepted step changes
  abbrev pub effect : Step → Configuration
  effect (Join p) = record m {
    seat = standing m p In;
    inside = m.inside + 1;
    members = m.members + 1;
  }
  effect (Publish p n) = publishing m n false
  effect (PublishTry p n) = publishing m n true
  effect (Claim p t) = record m {
    seat = with_running m p (Some (claimed m t));
    counters = slice_set m.counters t (counter m t - 1);
  }
  effect (Rest p) = record m {
    seat = with_running m p (Some (rested m));
    remainder = m.remainder - 1;
  }
  effect (Finish p) = record m { seat = with_running m p None; finished = m.finished + 1 }
  effect (Stop p) = record m { seat = with_seen m p; stopped = true }
  effect (See p) = record m { seat = with_seen m p }
  effect (Arrive p) = closing (record m { seat = standing m p Arrived; inside = m.inside - 1 }) p
  effect (Leave p) = record m { seat = standing m p Out; members = m.members - 1 }
  effect (Exit p) = exited p
  effect (Clear p) = record m { published = None }
  effect (End p) = turned m

  -- what an accepted step answers: the word after it, and a claim's job
  abbrev pub answer : Step → Reply
  answer (Claim p t) = Job (word (effect (Claim p t))) (claimed m t)
  answer (Rest p) = Job (word (effect (Rest p))) (rested m)
  answer (Join p) = Word (word (effect (Join p)))
  answer (Publish p n) = Word (word (effect (Publish p n)))
  answer (PublishTry p n) = Word (word (effect (PublishTry p n)))
  answer (Finish p) = Word (word (effect (Finish p)))
  answer (Stop p) = Word (word (effect (Stop p)))
  answer (See p) = Word (word (effect (See p)))
  answer (Arrive p) = Word (word (effect (Arrive p)))
  answer (Leave p) = Word (word (effect (Leave p)))
  answer (Exit p) = Word (word (effect (Exit p)))
  answer (Clear p) = Word (word (effect (Clear p)))
  answer (End p) = Word (word (effect (End p)))

-- the first test that is true
abbrev pub first : List (Why × Bool) → Option Why
first [] = None
first (t ∷ ts) = if t.1 then Some t.0 else first ts

-- refused for that reason, with nothing changed, or accepted
abbrev pub judged : Option Why → Configuration → Step → Configuration × Reply
judged None m e = (effect m e, answer m e)
judged (Some why) m e = (m, Refused why)

-- the machine after the step, and its answer; `granted` says whether a growth is granted
abbrev pub serve : Configuration → (granted : Bool) → Step → Configuration × Reply
serve m granted e = judged (first (tests m granted e)) m e
