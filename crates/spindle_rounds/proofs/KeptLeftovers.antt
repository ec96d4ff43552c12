-- A load that asks what is left: between rounds the leader knows from then on what stands there.
use Rattle.std.proofs.Common.{◌≡◌, ◌≢◌, ⊎_elim, ℕ, ◌<◌, ◌≤◌, Bool, true, false, List, [], ◌∷◌, get_or, sym, refl, ap, ◌∙◌, subst, arith, Some, set}
use Rattle.std.proofs.Common.{if◌then◌else◌, ◌==◌, nat_lt}
use mathlib.Core.Option.{some}
use lib.ListN.{get_elem?}
use lib.Seq.{set-get_or}
use Rattle.atomic_table.specs.Table as table
use Rattle.atomic_table.specs.Table.{keeps, stepped}
use Rattle.atomic_table.proofs.Lists.{at_set}
use Rattle.spindle_parts.specs.State.{State}
use Rattle.spindle_parts.specs.Steps.{Event}
use Rattle.spindle_parts.specs.Runs.{state}
use Rattle.spindle_rounds.specs.declared.round_table.view.Standing.{Standing}
use Rattle.spindle_rounds.specs.declared.round_table.view.Standing.TheVariants.{Inside}
use Rattle.spindle_rounds.specs.declared.round_table.view.View.{View}
use Rattle.spindle_rounds.specs.RoundSlots.{Discipline, Lawful}
use Rattle.spindle_rounds.specs.RoundRule.{Laid, stored_at}
use Rattle.spindle_rounds.specs.RoundShown.{Shows, Words}
use Rattle.spindle_rounds.specs.Words.{finished_at, remainder_at, range_at, start_of, end_of}
use Rattle.spindle_rounds.specs.RoundSteps.{reading, searching, reading_remainder}
use Rattle.spindle_rounds.specs.Leftovers.{is_between, finding, FindTells, FindRestTells}
use Rattle.spindle_rounds.specs.RoundRuns.{PlainLoad}
use Rattle.spindle_rounds.proofs.Lists.{first_set}
use Rattle.spindle_rounds.proofs.RoundQuiet.{unchanged}
use Rattle.spindle_rounds.proofs.RoundMoves.{Rule, SeatOf, moves_with, shows_by, knows_by}
use Rattle.spindle_rounds.proofs.RoundWords.{by_equal}
use Rattle.spindle_rounds.proofs.KeptLoads.{search_shows, remainder_shows}

-- between rounds the leader is inside and has published nothing
is_inside : (st : Standing) (u : Bool) → is_between st u ≡ true → (q : ℕ) × (st ≡ Inside q) × (u ≡ true)
is_inside (Inside q) u e = (q, refl, e)
is_inside st u e = absurd cc

-- one word more is known
known_more : (b : Bool) (i x : ℕ) (st : List (ℕ × ℕ)) (ws : List ℕ) → finished_at ≤ i → get_or ws i 0 ≡ x
    → ((k y : ℕ) → stored_at st k ≡ Some y → (finished_at ≤ k) × (get_or ws k 0 ≡ y))
    → (k y : ℕ) → stored_at (if b then (i, x) ∷ st else st) k ≡ Some y → (finished_at ≤ k) × (get_or ws k 0 ≡ y)
known_more false i x st ws le is old k y z = old k y z
known_more true i x st ws le is old k y h = by_equal i k (λ b. (if b then Some x else stored_at st k) ≡ Some y → (finished_at ≤ k) × (get_or ws k 0 ≡ y))
    (λ same z. let a : x ≡ y = cc in (omega arith, subst (λ (c : ℕ). get_or ws c 0 ≡ y) same (is ∙ a)))
    (λ apart z. old k y z) h

none_known : (b : Bool) (i x : ℕ) (st : List (ℕ × ℕ)) → (b ≡ true → ⊥) → st ≡ [] → (if b then (i, x) ∷ st else st) ≡ []
none_known false i x st not e = e
none_known true i x st not e = absurd (not refl)

module _ {X N : Type 0} (D : Discipline X N) (law : Lawful D) (t : ℕ) where
  found : (run : List Event) (s : table.State X (View N)) (r : Rule D t run s) (i j id : ℕ) (empty : Bool) (me : SeatOf D t) → get_elem? s.views id ≡ some me.0
      → finished_at ≤ i → let x : ℕ = get_or s.words i 0 in let u : View N = reading i j empty x me.0 in Shows (state run) id u
      → Rule D t run (stepped s i x id me.1 (finding i x u) keeps)
  found run s r i j id empty me at le shows = let S : State = state run in let x : ℕ = get_or s.words i 0 in
      let w : View N = finding i x (reading i j empty x me.0) in let here = set-get_or s.words i 0 in let seat = r.seats id me.0 at in
      let st : List (ℕ × ℕ) = me.0.known.stored in let b : Bool = is_between me.0.standing me.0.known.unpublished in
      moves_with D t run s r i x id me w keeps [] at tt r.is_run (subst (Words t S) (sym here) r.words)
      (shows_by shows.stands shows.leads shows.claim shows.share (λ q e. let k = shows.inside q e in knows_by k.number k.unpublished k.seen k.emptied k.unread))
      seat.1 refl
      (λ v e. subst (λ (ws : List ℕ). Laid t S ws v) (sym here) (⊎_elim
      (λ (h : (0 ≡ id) × (w ≡ v)). let l = r.lays me.0 (subst (λ (a : ℕ). get_elem? s.views a ≡ some me.0) (sym h.0) at) in subst (Laid t S s.words) h.1
      record {
        stored = known_more b i x st s.words le refl l.stored;
        unstored = λ is. none_known b i x st (λ z. let c = is_inside me.0.standing me.0.known.unpublished z in
            is ((seat.0.inside c.0 c.1).unpublished c.2).1) (l.unstored is);
        current = l.current;
        left = l.left;
      })
      (λ (h : (0 ≢ id) × (get_elem? s.views 0 ≡ some v)). r.lays v h.1) (at_set s.views id 0 w v e)))
      (law.stays S S s.homes s.views id me.0 w r.slots (unchanged S) at (refl, refl, refl))

  -- what is left of a range
  pub finds : (slots id : ℕ) (me : SeatOf D t) (i : ℕ) → i < t → PlainLoad D t slots id me (range_at i) FindTells
  finds slots id me i low = record {
    shows = λ run s r _ at _. let x : ℕ = get_or s.words (range_at i) 0 in (
      finding (range_at i) x (searching i x me.0),
      keeps,
      tt,
      found run s r (range_at i) i id (if nat_lt (start_of x) (end_of x) then false else true) me at (omega arith)
          (search_shows D law t id me i low run s r at),
      (refl, λ j same. let ij : i ≡ j = omega arith in ap (λ (z : ℕ). finding (range_at z) x (searching z x me.0)) ij),
    );
  }

  -- and what is left of the remainder
  pub remainder_finds : (slots id : ℕ) (me : SeatOf D t) → PlainLoad D t slots id me remainder_at (FindRestTells D)
  remainder_finds slots id me = record {
    shows = λ run s r _ at _. let x : ℕ = get_or s.words remainder_at 0 in let w : View N = finding remainder_at x (reading_remainder x me.0) in
        let rule = found run s r remainder_at me.0.threads id (x == 0) me at (omega arith) (remainder_shows D law t id me run s r at) in (
          w,
          keeps,
          tt,
          rule,
          (
            refl,
            refl,
            λ may. let leads = (((r.seats id me.0 at).0.inside may.0.0 may.0.1).unpublished may.1).0 in (
              t,
              stepped s remainder_at x id me.1 w keeps,
              record { run = run; by_run = rule },
              subst (λ (a : ℕ). get_elem? (set s.views a w) 0 ≡ some w) (sym leads)
                  (first_set s.views w me.0 (subst (λ (a : ℕ). get_elem? s.views a ≡ some me.0) leads at)),
            ),
          ),
        );
  }
