-- What a user may read of a round table whose rule holds, at any moment.
use Rattle.std.specs.Prelude.{◌≡◌, ℕ, List, [], ◌∷◌, ◌++◌, if◌then◌else◌, ◌==◌}
use mathlib.Core.Option.{some}
use lib.ListN.{get_elem?}
use Rattle.atomic_table.specs.Table as table
use Rattle.spindle_parts.specs.State.{times}
use Rattle.spindle_parts.specs.Steps.{Event}
use Rattle.spindle_parts.specs.Runs.{state}
use Rattle.spindle_parts.specs.EveryRun.{RunLaws}
use Rattle.spindle_rounds.specs.declared.round_table.view.View.{View}
use Rattle.spindle_rounds.specs.RoundSlots.{Discipline}
use Rattle.spindle_rounds.specs.RoundRule.{Shown}
use Rattle.spindle_rounds.specs.RoundShown.{Deed, Began, Ended, deeds, deeds_of, Shows, Words}

-- the number that began in round r by this deed, if it is such a deed
abbrev pub begun_by : ℕ → Deed → List ℕ
begun_by r (Began q k) = if q == r then k ∷ [] else []
begun_by r _ = []

-- the number that finished in round r by this deed
abbrev pub finished_by : ℕ → Deed → List ℕ
finished_by r (Ended q k) = if q == r then k ∷ [] else []
finished_by r _ = []

-- the numbers of all these deeds
abbrev pub told : (Deed → List ℕ) → List Deed → List ℕ
told f [] = []
told f (d ∷ ds) = f d ++ told f ds

module _ {N : Type 0} where
  -- the numbers of the deeds of all seats, by their trails
  abbrev pub told_by_all : (Deed → List ℕ) → List (View N) → List ℕ
  told_by_all f [] = []
  told_by_all f (v ∷ vs) = told f (deeds_of v.trail) ++ told_by_all f vs

  -- the run of a table of t threads, as its words and its seats show it
  pub record LawfulRun {S : Type 0} (t : ℕ) (run : List Event) (s : table.State S (View N))
      : Type 0 where
    -- the laws of every run hold of it
    pub laws : RunLaws run
    -- the words show the state that it ends in, and so does each seat
    pub words : Words t (state run) s.words
    pub seats : (p : ℕ) (v : View N) → get_elem? s.views p ≡ some v → Shows (state run) p v
    -- what a party has begun, finished and published in it is what its seat's trail says, in order
    pub deeds : (p : ℕ) (v : View N) → get_elem? s.views p ≡ some v
        → deeds_of v.trail ≡ deeds p run
    -- in each round a number has begun as often as all trails tell, and finished as often
    pub begun : (r k : ℕ)
        → times k (told_by_all (begun_by r) s.views) ≡ times k ((state run).rounds r).begun
    pub finished : (r k : ℕ)
        → times k (told_by_all (finished_by r) s.views) ≡ times k ((state run).rounds r).finished

-- where the rule of a table holds, the run that it names is lawful
abbrev pub EveryMoment : {S N : Type 0} → Discipline S N → Type 0
EveryMoment {S} {N} D = (t : ℕ) (s : table.State S (View N)) (rule : Shown D t s)
    → LawfulRun t rule.run s

-- this holds of the views of all seats, at every moment of every table
abbrev pub AtEveryMoment : {S N : Type 0} → Discipline S N → (List (View N) → Type 0) → Type 0
AtEveryMoment {S} {N} D P = (t : ℕ) (s : table.State S (View N)) → Shown D t s → P s.views
