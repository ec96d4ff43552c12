-- What a leader that works alone has stopped in a round that may stop, of n jobs. A number that isn't below n stands for none.
use Rattle.std.specs.Prelude.{◌≡◌, ◌⊎◌, ℕ, ◌<◌, ◌≤◌, List, ◌∷◌, Vec, length, slice_index_or}
use Rattle.std.specs.List.{Any}
use Rattle.std.proofs.Common.{⊎_elim, inl, inr, sym, ap, ◌∙◌, subst}
use Rattle.spindle_rounds.specs.declared.round_table.view.View.{View}
use Rattle.spindle_rounds.specs.RoundShown.{Deed, Stopped}
use Rattle.spindle_rounds.specs.RoundSteps.{round_of}
use Rattle.spindle_rounds.specs.RoundViews.{StopsAsBefore, stops_of}

-- the buffer of the number f has a failure, if f is the number of one of the buffers from a number on
abbrev pub HasFailedIn : {B Z : Type 0} → (B → Type 0) → (from f : ℕ) → List (Vec B Z) → Type 0
HasFailedIn {B = B} {Z = Z} Fails from f buffers = from ≤ f → f < length buffers
    → (d : Vec B Z) → Any Fails (slice_index_or buffers f d).items

module _ {N : Type 0} where
  -- the last stop was by the number f, in the round of the first view
  abbrev pub HasStoppedAt : (n f : ℕ) → View N → View N → Type 0
  HasStoppedAt n f v w = (f < n) × (older : List Deed)
      × (stops_of w.trail ≡ Stopped (round_of v.standing) f ∷ older)

  -- nothing was stopped, or the last stop was by the number f
  abbrev pub IsStoppedBy : (n f : ℕ) → View N → View N → Type 0
  IsStoppedBy n f v w = ((n ≤ f) × StopsAsBefore v w) ⊎ HasStoppedAt n f v w

  -- the same while it works: f is the number that failed last, and was e before
  abbrev pub StopsBy : (n e : ℕ) → View N → (f : ℕ) → View N → Type 0
  StopsBy n e v f w = (w.standing ≡ v.standing)
      × (((f ≡ e) × StopsAsBefore v w) ⊎ HasStoppedAt n f v w)

  -- from one number to the next, and on
  pub stops_then : (n m e f g : ℕ) (u v w : View N) → m ≡ n → StopsBy n e u f v → StopsBy m f v g w
      → StopsBy n e u g w
  stops_then n m e f g u v w same a b = (
    b.0 ∙ a.0,
    ⊎_elim (λ (none : (g ≡ f) × StopsAsBefore v w). ⊎_elim
        (λ (still : (f ≡ e) × StopsAsBefore u v). inl (none.0 ∙ still.0, none.1 ∙ still.1))
        (λ (at : HasStoppedAt n f u v). inr (subst (λ k. HasStoppedAt n k u w) (sym none.0)
        (at.0, at.1, none.1 ∙ at.2))) a.1)
        (λ (at : HasStoppedAt m g v w). inr (subst (λ k. HasStoppedAt k g u w) same
        (at.0, at.1, at.2 ∙ ap (λ s. Stopped (round_of s) g ∷ at.1) a.0))) b.1,
  )
