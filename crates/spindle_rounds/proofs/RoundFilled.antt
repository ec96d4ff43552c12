-- The stores of `fill`, one after another, and what they leave of a seat.
use Rattle.std.proofs.Common.{◌≡◌, ℕ, zero, suc, ◌<◌, if◌then◌else◌, List, refl, ap, ◌∙◌, arith, Some}
use mathlib.Core.Logic.{dite}
use native.Mathlib.Decide.{ℕ_discrete}
use Rattle.spindle_parts.specs.declared.trail.Trace.{Trace}
use Rattle.spindle_rounds.specs.declared.round_table.view.Kind.{Kind}
use Rattle.spindle_rounds.specs.declared.round_table.view.View.{View}
use Rattle.spindle_rounds.specs.Words.{filled_at}
use Rattle.spindle_rounds.specs.RoundRule.{stored_at, fill_value}
use Rattle.spindle_rounds.specs.RoundSteps.{filling}
use Rattle.spindle_rounds.specs.RoundAnswers.{stored_for, trail_for, filled_view}
use Rattle.spindle_rounds.specs.RoundShown.{deeds_of}
use Rattle.spindle_rounds.proofs.RoundWords.{by_equal}

module _ (t n : ℕ) where
  -- one word more is stored
  pub filled_next : {N : Type 0} (v : View N) (j x : ℕ) (u w : View N) → u ≡ filled_view t n j v → x ≡ fill_value t n j → w ≡ filling (filled_at j) x u
      → w ≡ filled_view t n (suc j) v
  filled_next v j x u w f is e = e ∙ (λ i. filling (filled_at j) (is i) (f i))

  -- the first j words are among those that the leader has stored
  pub filled_stands : (l : List (ℕ × ℕ)) (j i : ℕ) → i < j → stored_at (stored_for t n j l) (filled_at i) ≡ Some (fill_value t n i)
  filled_stands l zero i lt = absurd (omega arith)
  filled_stands l (suc j) i lt = by_equal (filled_at j) (filled_at i) (λ b.
      (if b then Some (fill_value t n j) else stored_at (stored_for t n j l) (filled_at i)) ≡ Some (fill_value t n i))
      (λ same. let z : j ≡ i = omega arith in ap (λ (a : ℕ). Some (fill_value t n a)) z)
      (λ other. filled_stands l j i (dite (ℕ_discrete i j) (λ z. absurd (other (omega arith))) (λ z. omega arith)))

  -- they are no deeds
  pub filled_quiet : (l : List (Trace Kind)) (j : ℕ) → deeds_of (trail_for t n j l) ≡ deeds_of l
  filled_quiet l zero = refl
  filled_quiet l (suc j) = filled_quiet l j
