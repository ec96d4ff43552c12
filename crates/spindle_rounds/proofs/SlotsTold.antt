-- What the clause of a table with pieces says of each slot, in the words of the round.
use Rattle.std.proofs.Common.{◌≡◌, ◌⊎◌, inl, inr, ⊎_elim, ℕ, ◌<◌, List, sym, ◌∙◌, subst, arith}
use mathlib.Core.Logic.{dite}
use mathlib.Core.Option as m
use mathlib.Core.Option.{some, none, some-injective, some-ne-none}
use native.Mathlib.Decide.{ℕ_discrete}
use lib.ListN.{get_elem?}
use Rattle.atomic_table.specs.Table as table
use Rattle.spindle_parts.specs.State.{Round, times}
use Rattle.spindle_parts.specs.Steps.{Event}
use Rattle.spindle_parts.specs.Runs.{state}
use Rattle.spindle_rounds.specs.declared.round_table.view.View.{View}
use Rattle.spindle_rounds.specs.declared.round_table.view.Spot.{Spot}
use Rattle.spindle_rounds.specs.declared.round_table.view.Spot.TheVariants.{Filled}
use Rattle.spindle_rounds.specs.declared.round_table.pieces.SlotState.{SlotState}
use Rattle.spindle_rounds.specs.declared.round_table.pieces.SlotState.TheVariants.{Waits, Done}
use Rattle.spindle_rounds.specs.RoundSlots.{spot_at}
use Rattle.spindle_rounds.specs.RoundPieces.{IsAway, IsHome, IsRunning, HasEnded, IsDoneWith, Fits, Held, SlotTells, SlotsTell}

module _ {P A : Type 0} (answers : P → A → Type 0) where
  -- what a slot holds
  abbrev Slot : Type 0
  Slot = SlotState P A

  apart : (h : m.Option (m.Option Slot)) (y : Slot) → IsAway h → IsHome h y → ⊥
  apart h y away home = some-ne-none y (sym (some-injective none (some y) (sym away ∙ home)))

  one : (h : m.Option (m.Option Slot)) (y z : Slot) → IsHome h y → IsHome h z → y ≡ z
  one h y z a b = some-injective y z (some-injective (some y) (some z) (sym a ∙ b))

  module _ (r : Round) (k : ℕ) (x : P) (h : m.Option (m.Option Slot)) (f : Fits answers r k x h) where
    abbrev Fresh : Type 0
    Fresh = (times k r.finished ≡ 0) × IsHome h (Waits x)

    abbrev Ended : Type 0
    Ended = HasEnded r k × ((o : A) × IsHome h (Done o) × answers x o)

    -- the piece waits, or runs, or is answered
    three : Fresh ⊎ ((IsRunning r k × IsAway h) ⊎ Ended)
    three = dite (ℕ_discrete (times k r.finished) 0) (λ none_yet. dite (ℕ_discrete (times k r.begun) 0) (λ z. inl (none_yet, f.fresh z))
        (λ n. let b : 0 < times k r.begun = omega arith in inr (inl ((b, none_yet), f.away (b, none_yet)))))
        (λ n. let b : 0 < times k r.finished = omega arith in inr (inr (b, f.done b)))

    pub tells : SlotTells answers r k x h
    tells = record {
      there = ⊎_elim (λ (a : Fresh). inr (Waits x, a.1)) (⊎_elim (λ (b : IsRunning r k × IsAway h). inl b.1) (λ (c : Ended). inr (Done c.1.0, c.1.1))) three;
      away = (
        (λ away. ⊎_elim (λ (a : Fresh). absurd (apart h (Waits x) away a.1))
            (⊎_elim (λ (b : IsRunning r k × IsAway h). b.0) (λ (c : Ended). absurd (apart h (Done c.1.0) away c.1.1))) three),
        f.away,
      );
      done = λ y home. (
        (λ ended. let d = f.done ended in (d.0, one h y (Done d.0) home d.1, d.2)),
        λ (d : IsDoneWith answers x y). ⊎_elim (λ (a : Fresh). let bad : Done d.0 ≡ Waits x = sym d.1 ∙ one h y (Waits x) home a.1 in absurd cc)
            (⊎_elim (λ (b : IsRunning r k × IsAway h). absurd (apart h y b.1 home)) (λ (c : Ended). c.0)) three,
      );
      waits = λ y home none_yet. ⊎_elim (λ (a : Fresh). one h y (Waits x) home a.1)
          (⊎_elim (λ (b : IsRunning r k × IsAway h). absurd (apart h y b.1 home)) (λ (c : Ended). let lt = c.0 in absurd (omega arith))) three;
    }

  pub slots_tell : (run : List Event) (s : table.State Slot (View P)) → Held answers (state run) s.homes s.views → SlotsTell answers run s
  slots_tell run s held = record {
    published = λ n v shown at k lt. let h = held.handed n shown k lt in
        (h.0, subst (λ (b : List (ℕ × Spot P)). spot_at b k ≡ Filled (state run).round h.0) (sym (held.leaders v at)) h.1);
    tells = λ v k q x at put. tells ((state run).rounds q) k x (get_elem? s.homes k)
        (held.fits k q x (subst (λ (b : List (ℕ × Spot P)). spot_at b k ≡ Filled q x) (held.leaders v at) put));
  }
