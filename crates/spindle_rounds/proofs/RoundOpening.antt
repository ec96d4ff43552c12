-- A fresh table, and a new seat.
use Rattle.std.proofs.Common.{◌≡◌, ◌≢◌, ⊎_elim, ℕ, zero, suc, Bool, true, false, List, [], ◌∷◌, ◌++◌, length, length-append}
use Rattle.std.proofs.Common.{get_or, sym, refl, ap, subst, arith, Some, None}
use mathlib.Core.Option.{some, some-injective, some-ne-none}
use lib.ListN.{get_elem?}
use Rattle.atomic_table.specs.Table.{opening, Splits}
use Rattle.atomic_table.proofs.Lists.{set_again}
use Rattle.spindle_rounds.proofs.Lists.{in_list, at_end}
use Rattle.spindle_parts.specs.State.{State, Party, party, absent, fresh}
use Rattle.spindle_parts.specs.Steps.{Event}
use Rattle.spindle_parts.specs.Runs.{state}
use Rattle.spindle_rounds.specs.declared.round_table.view.View.{View}
use Rattle.spindle_rounds.specs.RoundSlots.{Discipline, Lawful}
use Rattle.spindle_rounds.specs.RoundRule.{Laid}
use Rattle.spindle_rounds.specs.RoundShown.{Shows, deeds, deeds_of}
use Rattle.spindle_rounds.specs.Words.{barrier_at, published_at, words_of}
use Rattle.spindle_rounds.specs.RoundSteps.{outsider}
use Rattle.spindle_rounds.proofs.RoundMoves.{Rule, shows_by, laid_hidden}
use Rattle.spindle_rounds.proofs.RoundWords.{hidden_shown}

module _ {N : Type 0} where
  -- who has done nothing shows as an outsider
  blank_shows : (s : State) (t p : ℕ) (leads : Bool) → (leads ≡ true → p ≡ 0) × (leads ≡ false → p ≢ 0) → party s p ≡ absent → s.closer ≢ Some p
      → let v : View N = outsider t leads in Shows s p v
  blank_shows s t p leads first is c = shows_by (ap (λ (x : Party). x.status) is, c) first (ap (λ (x : Party). x.running) is)
      (λ k. ((λ e. let a = ap (λ (x : Party). x.taken k) is in absurd cc), (λ z. let z₁ = z.1 in absurd (omega arith)))) (λ q e. absurd cc)

  -- and has stored nothing
  blank_laid : (t : ℕ) (s : State) (ws : List ℕ) (leads : Bool) → (s.published ≡ None) → let v : View N = outsider t leads in Laid t s ws v
  blank_laid t s ws leads hidden = laid_hidden hidden (λ i x e. absurd cc) (λ q e. absurd cc)

module _ {X N : Type 0} (D : Discipline X N) (law : Lawful D) (t : ℕ) where
  pub opens : (ws : List ℕ) (xs : List X) → length ws ≡ words_of t → ((i : ℕ) → get_or ws i 0 ≡ 0) → D.starts xs → Rule D t [] (opening ws xs (outsider t true))
  opens ws xs wide zeros starts = record {
    is_run = tt;
    words = hidden_shown wide (zeros barrier_at) (zeros published_at) refl;
    seats = go;
    lays = λ v e. subst (Laid t fresh ws) (some-injective (outsider t true) v e) (blank_laid t fresh ws true refl);
    beyond = λ p le. (refl, (λ e. cc), refl);
    slots = law.opens xs (outsider t true) starts (refl, refl, refl);
  }
    where
      go : (p : ℕ) (v : View N) → get_elem? (outsider t true ∷ []) p ≡ some v → Shows fresh p v × (deeds_of v.trail ≡ deeds p []) × (v.threads ≡ t)
      go zero v e = subst (λ (z : View N). Shows fresh 0 z × (deeds_of z.trail ≡ deeds 0 []) × (z.threads ≡ t)) (some-injective (outsider t true) v e)
          (blank_shows fresh t 0 true ((λ _. refl), (λ e. absurd cc)) refl (λ c. cc), refl, refl)
      go (suc p) v e = absurd (some-ne-none v (sym e))

  pub splits : (id : ℕ) (v : View N) (run : List Event) → Splits (Rule D t run) id v v (outsider v.threads false)
  splits id v run s r at = let same = set_again s.views id v at in let new : View N = outsider v.threads false in
      subst (λ (l : List (View N)). Rule D t run record { words = s.words; homes = s.homes; views = l ++ new ∷ [] }) (sym same) record {
        is_run = r.is_run;
        words = r.words;
        seats = λ p u e. ⊎_elim (r.seats p u) (λ (z : (p ≡ length s.views) × (new ≡ u)). let b = r.beyond p (let z₀ = z.0 in omega arith) in
            let some_seat = in_list s.views id v at in let z₀ = z.0 in
            subst (λ (y : View N). Shows (state run) p y × (deeds_of y.trail ≡ deeds p run) × (y.threads ≡ t)) z.1
            (blank_shows (state run) v.threads p false ((λ e. absurd cc), (λ _ e. omega arith)) b.0 b.1, sym b.2, (r.seats id v at).2))
            (at_end s.views new u p e);
        lays = λ u e. ⊎_elim (r.lays u) (λ (z : (0 ≡ length s.views) × (new ≡ u)). let some_seat = in_list s.views id v at in let z₀ = z.0 in
            absurd (omega arith)) (at_end s.views new u 0 e);
        beyond = λ p le. r.beyond p (let n = length-append s.views (new ∷ []) in omega arith);
        slots = law.splits (state run) s.homes s.views new r.slots (refl, refl, refl);
      }
