-- The state of a round: who takes part, what each party runs and has taken,
-- and what each round has begun and finished.
use Rattle.std.specs.Prelude.{◌≡◌, ◌⊎◌, ℕ, zero, suc, ◌+◌, ◌<◌, Bool, true, false, ◌==◌, List, []}
use Rattle.std.specs.Prelude.{◌∷◌, Option, None, if◌then◌else◌}

-- how a party stands: no member, a member that hasn't arrived, a member that has
pub data Status : Type 0 where
  Out : Status
  In : Status
  Arrived : Status

-- a party: how it stands, the job that it runs, the numbers that it has taken and not begun
pub record Party : Type 0 where
  pub status : Status
  pub running : Option ℕ
  pub taken : ℕ → Bool

-- a round: how many jobs were published in it, whether it may be stopped, whether it was,
-- who has seen that, and the numbers begun and finished, in the order of the events
pub record Round : Type 0 where
  pub jobs : ℕ
  pub stoppable : Bool
  pub stopped : Bool
  pub seen : ℕ → Bool
  pub begun : List ℕ
  pub finished : List ℕ

-- the rounds at a moment: the round number, the parties (party p is the p-th,
-- and one past the end is out), the closer, how many jobs are published, and every round
pub record State : Type 0 where
  pub round : ℕ
  pub parties : List Party
  pub closer : Option ℕ
  pub published : Option ℕ
  pub rounds : ℕ → Round

-- the empty set of numbers
abbrev pub no_set : ℕ → Bool
no_set k = false

-- a party that is out
abbrev pub absent : Party
absent = record { status = Out; running = None; taken = no_set }

-- a round in which nothing happened
abbrev pub blank : Round
blank = record {
  jobs = 0;
  stoppable = false;
  stopped = false;
  seen = no_set;
  begun = [];
  finished = [];
}

-- the first state: nobody came, nothing happened
abbrev pub fresh : State
fresh = record { round = 0; parties = []; closer = None; published = None; rounds = λ _. blank }

-- the function f, but x at k
abbrev pub put : {A : Type 0} → (ℕ → A) → ℕ → A → ℕ → A
put f k x j = if j == k then x else f j

-- the party at its place
abbrev pub party_of : List Party → ℕ → Party
party_of [] p = absent
party_of (x ∷ xs) zero = x
party_of (x ∷ xs) (suc p) = party_of xs p

-- the parties, but y at its place
abbrev pub put_party : List Party → ℕ → Party → List Party
put_party [] zero y = y ∷ []
put_party [] (suc p) y = absent ∷ put_party [] p y
put_party (x ∷ xs) zero y = y ∷ xs
put_party (x ∷ xs) (suc p) y = x ∷ put_party xs p y

-- the sum of the parties' weights
abbrev pub total : (Party → ℕ) → List Party → ℕ
total w [] = 0
total w (x ∷ xs) = w x + total w xs

-- 1 for who is in
abbrev pub is_in : Status → ℕ
is_in Out = 0
is_in In = 1
is_in Arrived = 0

-- 1 for a member
abbrev pub is_member : Status → ℕ
is_member Out = 0
is_member In = 1
is_member Arrived = 1

-- 1 for a party that is in
abbrev pub weight_in : Party → ℕ
weight_in x = is_in x.status

-- 1 for a party that is a member
abbrev pub weight_member : Party → ℕ
weight_member x = is_member x.status

-- how many members are in
abbrev pub inside : List Party → ℕ
inside = total weight_in

-- how many members there are
abbrev pub members : List Party → ℕ
members = total weight_member

-- how often k stands in the list
abbrev pub times : ℕ → List ℕ → ℕ
times k [] = 0
times k (x ∷ xs) = (if x == k then 1 else 0) + times k xs

-- who has arrived is in
abbrev pub waking : Status → Status
waking Out = Out
waking In = In
waking Arrived = In

-- every member is in
abbrev pub wake : List Party → List Party
wake [] = []
wake (x ∷ xs) = record x { status = waking x.status } ∷ wake xs

module _ (s : State) where
  -- the round that goes on
  abbrev pub now : Round
  now = s.rounds s.round

  -- the party p
  abbrev pub party : ℕ → Party
  party = party_of s.parties

  -- the state, but the party p is x
  abbrev pub change : ℕ → Party → State
  change p x = record {
    round = s.round;
    parties = put_party s.parties p x;
    closer = s.closer;
    published = s.published;
    rounds = s.rounds;
  }

  -- the state, but the round that goes on is x
  abbrev pub change_round : Round → State
  change_round x = record {
    round = s.round;
    parties = s.parties;
    closer = s.closer;
    published = s.published;
    rounds = put s.rounds s.round x;
  }

  -- a number below the round's jobs that nobody has taken or begun
  abbrev pub Free : ℕ → Type 0
  Free k = (k < now.jobs) × (times k now.begun ≡ 0) × ((p : ℕ) → (party p).taken k ≡ false)

-- nothing is left to begin: no number is free, or the round was stopped
abbrev pub IsUsed : State → Type 0
IsUsed s = ((k : ℕ) → Free s k → ⊥) ⊎ ((now s).stopped ≡ true)
