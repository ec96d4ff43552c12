-- Runs: lists of events, each allowed where it stands.
use Rattle.std.specs.Prelude.{ℕ, ◌≤◌, List, [], ◌∷◌}
use Rattle.spindle_parts.specs.State.{State, fresh, times}
use Rattle.spindle_parts.specs.Steps.{Event, Allowed, after}

-- the state after the events, the newest first, from the fresh state on
abbrev pub state : List Event → State
state [] = fresh
state (e ∷ es) = after (state es) e

-- a run: each event is allowed where it stands
abbrev pub IsRun : List Event → Type 0
IsRun [] = Unit {0}
IsRun (e ∷ es) = Allowed (state es) e × IsRun es

-- no number stands twice in begun of any round, and none more often in finished than in begun
abbrev pub IsOnce : State → Type 0
IsOnce s = (q k : ℕ) → (times k (s.rounds q).begun ≤ 1)
    × (times k (s.rounds q).finished ≤ times k (s.rounds q).begun)
