-- What a party's steps on the barrier leave of its seat.
use Rattle.std.specs.Prelude.{◌≡◌, ◌⊎◌, ℕ, ◌+◌, ◌%◌, ◌<◌, true, false, Bool, List, [], ◌∷◌, ◌++◌}
use Rattle.atomic_table.specs.Table.{Me}
use Rattle.spindle_parts.specs.declared.trail.Trace.{Trace}
use Rattle.spindle_rounds.specs.declared.barrier.steps.JoinStep.TheVariants.{Joined, Full}
use Rattle.spindle_rounds.specs.declared.barrier.steps.Arrival.TheVariants.{Arrived}
use Rattle.spindle_rounds.specs.declared.barrier.steps.Look.TheVariants as look
use Rattle.spindle_rounds.specs.declared.barrier.steps.LeaveStep.TheVariants as leave
use Rattle.spindle_rounds.specs.declared.barrier.steps.ExitStep.TheVariants as exit
use Rattle.spindle_rounds.specs.declared.round_table.view.Standing.{Standing}
use Rattle.spindle_rounds.specs.declared.round_table.view.Standing.TheVariants.{Away, Inside}
use Rattle.spindle_rounds.specs.declared.round_table.view.Kind.{Kind}
use Rattle.spindle_rounds.specs.declared.round_table.view.Known.{Known}
use Rattle.spindle_rounds.specs.declared.round_table.view.View.{View}
use Rattle.spindle_rounds.specs.RoundShown.{deeds_of}
use Rattle.spindle_rounds.specs.RoundSteps.{round_of, unknown}
use Rattle.spindle_rounds.specs.RoundAnswers.{JoinedBy, ArrivedBy, LookedBy, LeftBy, ExitedBy}

-- it stands elsewhere and knows something else,
-- and no number began, finished or was published by its steps
pub record Moved {S N : Type 0} (st : Standing) (k : Known) (m w : Me S (View N)) : Type 0 where
  pub steps : List (Trace Kind)
  pub seat : w ≡ (record m.0 { standing = st; known = k; trail = steps ++ m.0.trail }, m.1)
  pub quiet : deeds_of steps ≡ []

module _ {S N : Type 0} where
  -- it is as before, but for its trail
  abbrev pub Stayed : Me S (View N) → Me S (View N) → Type 0
  Stayed m w = Moved m.0.standing m.0.known m w

  -- its round has ended, and it is inside the next
  abbrev pub InNext : Me S (View N) → Me S (View N) → Type 0
  InNext m w = Moved (Inside (round_of m.0.standing + 1)) (unknown m.0.leader false) m w

  -- it is no member any more, and no closer
  abbrev pub WentOut : Me S (View N) → Me S (View N) → Type 0
  WentOut m w = Moved Away (unknown false false) m w

  -- it exited, after attempts between which other steps came: as the closer it then ended its round
  abbrev pub Departed : Bool → Me S (View N) → Me S (View N) → Type 0
  Departed false m w = (u : Me S (View N)) × Stayed m u × ExitedBy exit.Gone u w
  Departed true m w = (u c : Me S (View N)) × Stayed m u × ExitedBy exit.Closer u c × WentOut c w

  -- a join after others that were refused
  abbrev pub JoinedAtLast : ℕ → Me S (View N) → Me S (View N) → Type 0
  JoinedAtLast sense m w = (u : Me S (View N)) × Stayed m u × JoinedBy (Joined sense) u w

  -- after others that were refused, one that found the barrier full
  abbrev pub FullAtLast : Me S (View N) → Me S (View N) → Type 0
  FullAtLast m w = (u : Me S (View N)) × Stayed m u × JoinedBy Full u w

  -- it arrived, though not last, and left while it waited
  abbrev pub LeftWaiting : Me S (View N) → Me S (View N) → Type 0
  LeftWaiting m w = (a u : Me S (View N)) × ArrivedBy Arrived m a × Stayed a u
      × LeftBy ((round_of m.0.standing + 1) % 2) leave.Left u w

  -- one turn of a party that waits, and goes on waiting:
  -- where the answer n is more than 0 it tries to leave, and else it looks
  abbrev pub TurnsOn : ℕ → ℕ → Me S (View N) → Me S (View N) → Type 0
  TurnsOn sense n m w =
      ((0 < n) × (LeftBy sense leave.Closing m w ⊎ LeftBy sense leave.Again m w)) ⊎
      ((n ≡ 0) × (LookedBy sense look.Running m w ⊎ LookedBy sense look.Closing m w))

  -- a turn at which it finds that its round has ended
  abbrev pub TurnsOver : ℕ → ℕ → Me S (View N) → Me S (View N) → Type 0
  TurnsOver sense n m w = ((0 < n) × LeftBy sense leave.Ended m w)
      ⊎ ((n ≡ 0) × LookedBy sense look.Ended m w)

  -- its turns, one for each answer, the newest first: the closure that answers goes from f to g
  abbrev pub Turned : {F : Type 0} → (F → ℕ → F → Type 0) → ℕ → List ℕ → F → F → Me S (View N)
      → Me S (View N) → Type 0
  Turned answers sense [] f g m w = (g ≡ f) × (w ≡ m)
  Turned {F = F} answers sense (n ∷ ns) f g m w = (e : F) × (u : Me S (View N))
      × Turned answers sense ns f e m u × answers e n g × TurnsOn sense n u w
