-- What the callers say of relations and of answers.
use Rattle.std.specs.Prelude.{◌≡◌, ◌≢◌, ℕ, ◌+◌, ◌∷◌, false, List}
use mathlib.Core.Option.{some}
use lib.ListN.{get_elem?}
use Rattle.std.specs.List.{Contains}
use Rattle.spindle_locks.specs.declared.lock.leader.Leader.{Leader}
use Rattle.spindle_locks.specs.Leaders.{view_of}
use Rattle.spindle_rounds.specs.declared.round_table.view.View.{View}
use Rattle.spindle_rounds.specs.RoundShown.{Began, Showed, deeds_of}
use Rattle.spindle_rounds.specs.RoundSlots.{Discipline}
use Rattle.spindle_rounds.specs.RoundSteps.{round_of}
use Rattle.spindle_rounds.specs.RoundTrails.{AtEveryMoment}
use Rattle.spindle_rounds.specs.RoundViews.{published_of}

-- each input has one output at most
abbrev pub IsFunction : {A B : Type 0} → (A → B → Type 0) → Type 0
IsFunction R = (x : _) (y z : _) → R x y → R x z → y ≡ z

-- the leader's trail has gained two published rounds, of n jobs and then of m, and there was no round between them
abbrev pub PublishedTwice : {J G L I O N S : Type 0}
    → (n m : ℕ) → (old new : Leader J G L I O N S) → Type 0
PublishedTwice n m old new =
    let r = round_of (view_of old).standing in
    published_of (view_of new).trail
    ≡ Showed (r + 1) m false ∷ Showed r n false ∷ published_of (view_of old).trail

-- the seat's trail tells that the number k began in round r
abbrev pub TellsOf : {N : Type 0} → (r k : ℕ) → View N → Type 0
TellsOf r k v = Contains (deeds_of v.trail) (Began r k)

-- where two of these seats began two jobs in one round, the numbers of the jobs differ
abbrev pub BeganApart : {N : Type 0} → List (View N) → Type 0
BeganApart {N} views = (p q : ℕ) (v w : View N) (r j k : ℕ) → p ≢ q
    → get_elem? views p ≡ some v → get_elem? views q ≡ some w
    → TellsOf r j v → TellsOf r k w → j ≢ k

-- at every moment of every table
abbrev pub JobsDiffer : {S N : Type 0} → Discipline S N → Type 0
JobsDiffer D = AtEveryMoment D BeganApart
