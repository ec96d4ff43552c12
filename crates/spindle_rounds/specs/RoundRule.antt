-- The rule of a round table: there is a run that its words and seats show. What stands here beside
-- that is what the induction needs: which words the leader has stored, and what they leave.
use Rattle.std.specs.Prelude.{◌≡◌, ◌≢◌, ℕ, zero, suc, ◌+◌, ◌*◌, ◌/◌, ◌%◌, ◌<◌, ◌≤◌}
use Rattle.std.specs.Prelude.{List, [], ◌∷◌, length, slice_index, Option, Some, None}
use Rattle.std.specs.Prelude.{if◌then◌else◌, ◌==◌}
use mathlib.Core.Option.{some}
use lib.ListN.{get_elem?}
use Rattle.spindle_parts.specs.State.{State, Round, absent, party, times}
use Rattle.spindle_parts.specs.Steps.{Event}
use Rattle.spindle_parts.specs.Runs.{state, IsRun}
use Rattle.atomic_table.specs.Table as table
use Rattle.spindle_rounds.specs.declared.round_table.view.View.{View}
use Rattle.spindle_rounds.specs.RoundSlots.{Discipline}
use Rattle.spindle_rounds.specs.Words.{finished_at, filled_at, high_half}
use Rattle.spindle_rounds.specs.RoundShown.{deeds, deeds_of, Shows, IsLeft, Words}

-- the values that finished, stopped, remainder and ranges get for a round of n jobs
abbrev pub fill_value : ℕ → ℕ → ℕ → ℕ
fill_value t n zero = 0
fill_value t n (suc zero) = 0
fill_value t n (suc (suc zero)) = n % t
fill_value t n (suc (suc (suc i))) = n / t * i + high_half * (n / t * i + n / t)

-- ranges and remainder stand for the numbers of a round that were not begun
abbrev pub StandsFor : ℕ → Round → List ℕ → Type 0
StandsFor t r ws = (k : ℕ) → (((k < r.jobs) × (times k r.begun ≡ 0)) → IsLeft t ws r.jobs k)
    × (IsLeft t ws r.jobs k → (k < r.jobs) × (times k r.begun ≡ 0))

-- the value that was stored last in the word i
abbrev pub stored_at : List (ℕ × ℕ) → ℕ → Option ℕ
stored_at [] i = None
stored_at (x ∷ xs) i = if x.0 == i then Some x.1 else stored_at xs i

-- all words of a round of n jobs are stored
abbrev pub IsFilled : ℕ → ℕ → List (ℕ × ℕ) → Type 0
IsFilled t n stored = (j : ℕ) → j < 3 + t → stored_at stored (filled_at j) ≡ Some (fill_value t n j)

-- what the leader has stored stands
pub record Laid {N : Type 0} (t : ℕ) (s : State) (ws : List ℕ) (v : View N) : Type 0 where
  pub stored : (i x : ℕ) → stored_at v.known.stored i ≡ Some x → (finished_at ≤ i)
      × (slice_index ws i ≡ x)
  pub unstored : s.published ≢ None → v.known.stored ≡ []
  pub current : s.published ≢ None → v.laid ≡ Some s.round
  pub left : (q : ℕ) → v.laid ≡ Some q → s.published ≡ None → StandsFor t (s.rounds q) ws

-- the words and all seats show the last state of the run
pub record ShownBy {S N : Type 0} (D : Discipline S N) (t : ℕ) (run : List Event)
    (s : table.State S (View N)) : Type 0 where
  pub is_run : IsRun run
  pub words : Words t (state run) s.words
  pub seats : (p : ℕ) (v : View N) → get_elem? s.views p ≡ some v → Shows (state run) p v
      × (deeds_of v.trail ≡ deeds p run) × (v.threads ≡ t)
  pub lays : (v : View N) → get_elem? s.views 0 ≡ some v → Laid t (state run) s.words v
  pub beyond : (p : ℕ) → length s.views ≤ p → (party (state run) p ≡ absent)
      × ((state run).closer ≢ Some p) × (deeds p run ≡ [])
  pub slots : D.clause (state run) s.homes s.views

-- there is a run that the table shows
pub record Shown {S N : Type 0} (D : Discipline S N) (t : ℕ)
    (s : table.State S (View N)) : Type 0 where
  pub run : List Event
  pub by_run : ShownBy D t run s
