-- What a thread's work in a round keeps of what its seat knows.
use Rattle.std.specs.Prelude.{◌≡◌, ℕ, ◌+◌, ◌≤◌, ◌∷◌, Bool, false, None}
use Rattle.spindle_rounds.specs.declared.round_table.view.View.{View}
use Rattle.spindle_rounds.specs.declared.round_table.view.Standing.TheVariants.{Inside}
use Rattle.spindle_rounds.specs.RoundShown.{Showed}
use Rattle.spindle_rounds.specs.RoundSteps.{round_of}
use Rattle.spindle_rounds.specs.RoundViews.{AtWork, StopsAsBefore, published_of}

-- the seat is at work in a round of n jobs, and has seen no stop of a round that can't stop
abbrev pub OnPublished : {N : Type 0} → ℕ → Bool → View N → Type 0
OnPublished n may_stop v = AtWork n may_stop v × (may_stop ≡ false → v.known.seen_stop ≡ false)

-- it has nothing to finish, and no number left in its share
abbrev pub IsIdle : {N : Type 0} → View N → Type 0
IsIdle v = (v.claim ≡ None) × (v.to ≤ v.from)

-- one round more was published, of n jobs, which may stop or not, and it has ended
abbrev pub PlayedRoundOf : {N : Type 0} → ℕ → Bool → View N → View N → Type 0
PlayedRoundOf n may_stop v w = (published_of w.trail ≡ Showed (round_of v.standing) n may_stop
    ∷ published_of v.trail)
    × (w.standing ≡ Inside (round_of v.standing + 1))

-- the same of a round that can't stop
abbrev pub PlayedRound : {N : Type 0} → ℕ → View N → View N → Type 0
PlayedRound n v w = PlayedRoundOf n false v w

-- between these views lies a round, in a part of which a work kept this; nothing was stopped
-- outside of that part
abbrev pub HasKept : {N : Type 0} → (View N → View N → Type 0) → View N → View N → Type 0
HasKept {N = N} Keeps v w = (x y : View N) × StopsAsBefore v x × (x.standing ≡ v.standing)
    × Keeps x y × StopsAsBefore y w

-- its round has ended: it is inside the next with nothing to finish, and nothing more was published
pub record HasPassed {N : Type 0} (v w : View N) : Type 0 where
  pub leader : w.leader ≡ v.leader
  pub threads : w.threads ≡ v.threads
  pub standing : w.standing ≡ Inside (round_of v.standing + 1)
  pub unpublished : w.known.unpublished ≡ v.leader
  pub idle : IsIdle w
  pub published : published_of w.trail ≡ published_of v.trail
