-- What the slots of a round table hold, as a parameter of its rule.
use Rattle.std.specs.Prelude.{◌≡◌, ◌≢◌, ◌⊎◌, ℕ, ◌<◌, List, [], ◌∷◌, ◌++◌, map, length, slice_set}
use Rattle.std.specs.Prelude.{Option, Some, None, if◌then◌else◌, ◌==◌}
use mathlib.Core.Option as m
use mathlib.Core.Option.{some, none}
use lib.ListN.{get_elem?}
use Rattle.spindle_parts.specs.State.{State, times, now, fresh}
use Rattle.atomic_table.specs.Table.{Act, Valid, homes_after, carried_after}
use Rattle.spindle_rounds.specs.declared.round_table.view.View.{View}
use Rattle.spindle_rounds.specs.declared.round_table.view.Spot.{Spot}
use Rattle.spindle_rounds.specs.declared.round_table.view.Spot.TheVariants.{Vacant, Out, Filled}

-- no number begins, finishes or is published
pub record Quiet (s s' : State) : Type 0 where
  pub begun : (r k : ℕ) → times k (s'.rounds r).begun ≡ times k (s.rounds r).begun
  pub finished : (r k : ℕ) → times k (s'.rounds r).finished ≡ times k (s.rounds r).finished
  pub jobs : (r : ℕ) → (s'.rounds r).jobs ≡ (s.rounds r).jobs
  pub published : (n : ℕ) → s'.published ≡ Some n → (s.published ≡ Some n) × (s'.round ≡ s.round)
  pub running : (k : ℕ) → 0 < times k (now s).begun → times k (now s).finished ≡ 0
      → s'.round ≡ s.round

-- the number k begins
pub record Begins (s s' : State) (k : ℕ) : Type 0 where
  pub round : s'.round ≡ s.round
  pub published : s'.published ≡ s.published
  pub begun : (r j : ℕ) → (r ≢ s.round) ⊎ (j ≢ k)
      → times j (s'.rounds r).begun ≡ times j (s.rounds r).begun
  pub finished : (r j : ℕ) → times j (s'.rounds r).finished ≡ times j (s.rounds r).finished
  pub before : times k (s.rounds s.round).begun ≡ 0
  pub after : 0 < times k (s'.rounds s.round).begun
  pub unfinished : times k (s.rounds s.round).finished ≡ 0
  pub shown : (n : ℕ) × (s.published ≡ Some n) × (k < n)

-- the number k finishes
pub record Finishes (s s' : State) (k : ℕ) : Type 0 where
  pub round : s'.round ≡ s.round
  pub published : s'.published ≡ s.published
  pub begun : (r j : ℕ) → times j (s'.rounds r).begun ≡ times j (s.rounds r).begun
  pub finished : (r j : ℕ) → (r ≢ s.round) ⊎ (j ≢ k)
      → times j (s'.rounds r).finished ≡ times j (s.rounds r).finished
  pub after : 0 < times k (s'.rounds s.round).finished

-- the number n is published, whether the round may stop or not
pub record Publishes (s s' : State) (n : ℕ) : Type 0 where
  pub round : s'.round ≡ s.round
  pub published : s'.published ≡ Some n
  pub begun : (r j : ℕ) → times j (s'.rounds r).begun ≡ times j (s.rounds r).begun
  pub finished : (r j : ℕ) → times j (s'.rounds r).finished ≡ times j (s.rounds r).finished

-- nothing is published, nothing of the current round has begun, and what has begun has finished
pub record AtRest (s : State) : Type 0 where
  pub hidden : s.published ≡ None
  pub unbegun : (k : ℕ) → times k (now s).begun ≡ 0
  pub over : (r k : ℕ) → times k (s.rounds r).finished ≡ times k (s.rounds r).begun

-- what the leader did last with the slot k
abbrev pub spot_at : {N : Type 0} → List (ℕ × Spot N) → ℕ → Spot N
spot_at [] k = Vacant
spot_at (x ∷ xs) k = if x.0 == k then x.1 else spot_at xs k

-- the number k has finished in the round in which the leader put a piece there
abbrev pub HasFinished : {N : Type 0} → State → ℕ → Spot N → Type 0
HasFinished s k (Filled r x) = 0 < times k (s.rounds r).finished
HasFinished s k _ = ⊥

-- the views are the same to the slots
abbrev pub SameSlots : {N : Type 0} → View N → View N → Type 0
SameSlots v w = (w.board ≡ v.board) × (w.note ≡ v.note) × (w.claim ≡ v.claim)

-- the leader's view once it has done p with the slot k
abbrev pub Spotted : {N : Type 0} → ℕ → Spot N → View N → View N → Type 0
Spotted k p v w = (w.board ≡ (k, p) ∷ v.board) × (w.note ≡ v.note) × (w.claim ≡ v.claim)

-- a seat that has done nothing with slots
abbrev pub NoSlots : {N : Type 0} → View N → Type 0
NoSlots v = (v.board ≡ []) × (v.note ≡ None) × (v.claim ≡ None)

-- what the rule of a table asks of its slots, step by step
pub record Discipline (S N : Type 0) : Type 1 where
  -- what holds of the slots at home beside the state and the views
  pub clause : State → List (m.Option S) → List (View N) → Type 0
  -- the slots that a table may open with
  pub starts : List S → Type 0
  -- the seat's slots before the number k begins, what it notes, and its slots after
  pub took : ℕ → List (ℕ × S) → Option N → List (ℕ × S) → Type 0
  -- what a finish does, and when
  pub gives : Act S
  pub may_give : ℕ → Option N → List (ℕ × S) → Type 0
  -- the round, the number, and what the leader has put into the slots
  pub may_publish : ℕ → ℕ → List (ℕ × Spot N) → Type 0
  -- by what the leader did last with a slot: whether it may take it out, what it finds there, and
  -- what it finds where the number has finished
  pub may_take : Spot N → Type 0
  pub found : Spot N → S → Type 0
  pub answered : Spot N → S → Type 0
  -- which value it may put into a slot, and what it has then done with it, by the round
  pub may_put : Spot N → S → Type 0
  pub spot_of : ℕ → S → Spot N

-- every step of the table keeps what holds of the slots
pub record Lawful {S N : Type 0} (D : Discipline S N) : Type 0 where
  pub opens : (xs : List S) (v : View N) → D.starts xs → NoSlots v
      → D.clause fresh (map some xs) (v ∷ [])
  pub splits : (s : State) (hs : List (m.Option S)) (vs : List (View N)) (v : View N)
      → D.clause s hs vs → NoSlots v → D.clause s hs (vs ++ v ∷ [])
  pub stays : (s s' : State) (hs : List (m.Option S)) (vs : List (View N)) (id : ℕ) (v w : View N)
      → D.clause s hs vs → Quiet s s'
      → get_elem? vs id ≡ some v → SameSlots v w → D.clause s' hs (slice_set vs id w)
  pub begins : (s s' : State) (hs : List (m.Option S)) (vs : List (View N)) (id : ℕ) (v : View N)
      (c : List (ℕ × S)) (k : ℕ) (w : Option N → View N)
      → D.clause s hs vs → Begins s s' k → get_elem? vs id ≡ some v
      → ((x : Option N) → ((w x).board ≡ v.board) × ((w x).note ≡ x) × ((w x).claim ≡ Some k))
      → (x : Option N) × (a : Act S) × Valid hs c a × D.clause s' (homes_after hs c a)
      (slice_set vs id (w x)) × D.took k c x (carried_after c a)
  pub finishes : (s s' : State) (hs : List (m.Option S)) (vs : List (View N)) (id : ℕ)
      (v w : View N) (c : List (ℕ × S)) (k : ℕ)
      → D.clause s hs vs → Finishes s s' k → get_elem? vs id ≡ some v → v.claim ≡ Some k →
      ((p : ℕ) (u : View N) → p ≢ id → get_elem? vs p ≡ some u → u.claim ≢ Some k)
      → (w.board ≡ v.board) × (w.claim ≡ None) → D.may_give k v.note c → Valid hs c D.gives
      × D.clause s' (homes_after hs c D.gives) (slice_set vs id w)
  pub publishes : (s s' : State) (hs : List (m.Option S)) (vs : List (View N)) (id : ℕ)
      (v w : View N) (n : ℕ) → D.clause s hs vs → Publishes s s' n
      → get_elem? vs 0 ≡ some v → id ≡ 0 → SameSlots v w → D.may_publish s.round n v.board
      → D.clause s' hs (slice_set vs id w)
  pub takes : (s : State) (hs : List (m.Option S)) (vs : List (View N)) (v w : View N) (k : ℕ)
      → let p : Spot N = spot_at v.board k in D.clause s hs vs → AtRest s
      → get_elem? vs 0 ≡ some v → k < length hs → D.may_take p → Spotted k Out v w
      → (y : S) × (get_elem? hs k ≡ some (some y))
      × D.clause s (slice_set hs k none) (slice_set vs 0 w) × D.found p y
      × (HasFinished s k p → D.answered p y)
  pub puts : (s : State) (hs : List (m.Option S)) (vs : List (View N)) (v w : View N) (k : ℕ)
      (y : S)
      → D.clause s hs vs → AtRest s → get_elem? vs 0 ≡ some v → D.may_put (spot_at v.board k) y
      → Spotted k (D.spot_of s.round y) v w → D.clause s (slice_set hs k (some y))
      (slice_set vs 0 w)

-- a table without slots
abbrev pub bare : Discipline (Unit {0}) (Unit {0})
bare = record {
  clause = λ s hs vs. Unit {0};
  starts = λ xs. Unit {0};
  took = λ k c x c'. (c' ≡ c) × (x ≡ None);
  gives = Act.keeps;
  may_give = λ k x c. Unit {0};
  may_publish = λ q n b. Unit {0};
  may_take = λ p. ⊥;
  found = λ p y. Unit {0};
  answered = λ p y. Unit {0};
  may_put = λ p y. Unit {0};
  spot_of = λ q y. Vacant;
}

-- every step of a table without slots keeps the nothing that holds of them
abbrev pub bare_lawful : Lawful bare
bare_lawful = record {
  opens = λ xs v z n. tt;
  splits = λ s hs vs v c n. tt;
  stays = λ s s' hs vs id v w c q at same. tt;
  begins = λ s s' hs vs id v c k w cl b at same. (None, Act.keeps, tt, tt, (λ i. c, λ i. None));
  finishes = λ s s' hs vs id v w c k cl f at mine alone same may. (tt, tt);
  publishes = λ s s' hs vs id v w n c p at lead same may. tt;
  takes = λ s hs vs v w k c rest at lt may is. absurd may;
  puts = λ s hs vs v w k y c rest at may is. tt;
}
