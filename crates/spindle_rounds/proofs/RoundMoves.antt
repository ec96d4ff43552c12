-- What every kind of step on a round table shares: the other seats show what they showed, and the leader's stores stand.
use Rattle.std.proofs.Common.{◌≡◌, ◌≢◌, ◌⊎◌, inl, inr, ⊎_elim, ℕ, suc, ◌+◌, ◌/◌, ◌%◌, ◌<◌, ◌≤◌, Bool, true, false, eq-eqb, ne_eqb, List, [], ◌∷◌, ◌++◌, get_or}
use Rattle.std.proofs.Common.{set, length-set, get_or-set_other, sym, refl, ap, ◌∙◌, subst, arith, Option, Some, None, if◌then◌else◌, ◌==◌}
use mathlib.Core.Logic.{dite}
use mathlib.Core.Option.{some}
use native.Mathlib.Decide.{ℕ_discrete}
use lib.ListN.{get_elem?}
use lib.Seq.{set-get_or}
use Rattle.atomic_table.specs.Table as table
use Rattle.atomic_table.specs.Table.{Me, Act, Step, keeps, stepped, Allows, Valid, Splits, homes_after, carried_after}
use Rattle.atomic_table.proofs.Lists.{at_set}
use Rattle.spindle_parts.specs.State.{State, Status, Out, In, Arrived, Party, Round, waking, now, party, times, Free, absent}
use Rattle.spindle_parts.specs.Steps.{Event, Allowed, by, after, with_status}
use Rattle.spindle_parts.specs.Runs.{state, IsRun}
use Rattle.spindle_parts.proofs.Soundness.{Sound, sound}
use Rattle.spindle_parts.proofs.Frames.{Steady, Turned, Frees, frame, closer_alone}
use Rattle.spindle_parts.specs.declared.trail.Trace.{Trace}
use Rattle.spindle_rounds.specs.declared.round_table.view.Standing.{Standing}
use Rattle.spindle_rounds.specs.declared.round_table.view.Standing.TheVariants.{Away, Inside, Waiting, Closing}
use Rattle.spindle_rounds.specs.declared.round_table.view.Kind.{Kind}
use Rattle.spindle_rounds.specs.declared.round_table.view.Known.{Known}
use Rattle.spindle_rounds.specs.declared.round_table.view.View.{View}
use prog.Atomic.{either}
use Rattle.spindle_rounds.specs.Words.{barrier_at, finished_at, remainder_at, range_at, high_half}
use Rattle.spindle_rounds.specs.RoundSteps.{noted, missing, loading, standing, unknown}
use Rattle.spindle_rounds.specs.RoundTells.{Turns, Exchanges, Begun}
use Rattle.spindle_rounds.specs.RoundSlots.{Discipline, Lawful, SameSlots}
use Rattle.spindle_rounds.specs.RoundRule.{ShownBy, Shown, Laid, StandsFor, stored_at}
use Rattle.spindle_rounds.specs.RoundShown.{deed, deeds, deeds_of, Stands, Knows, Shows, InRange, InRemainder, IsLeft, Words, home_of}
use Rattle.spindle_rounds.specs.RoundShown.{IsShare, IsListed, IsEmptied}
use Rattle.spindle_rounds.specs.RoundRuns.{Adds, Exchange}
use Rattle.spindle_rounds.proofs.Lists.{in_list}
use Rattle.spindle_rounds.proofs.RoundQuiet.{AllQuiet, quiet_run}

-- a seat shows its party by five facts
pub shows_by : {N : Type 0} {s : State} {p : ℕ} {v : View N} → Stands s p v.standing → (v.leader ≡ true → p ≡ 0) × (v.leader ≡ false → p ≢ 0)
    → (party s p).running ≡ v.claim → IsShare (party s p).taken v.from v.to → ((q : ℕ) → v.standing ≡ Inside q → Knows v.threads s p v.known) → Shows s p v
shows_by stands leads claim share inside = record { stands = stands; leads = leads; claim = claim; share = share; inside = inside }

-- and what it knows is so by five
pub knows_by : {t p : ℕ} {s : State} {k : Known} → ((n : ℕ) → k.number ≡ Some n → (s.published ≡ Some n) × ((now s).stoppable ≡ k.may_stop))
    → (k.unpublished ≡ true → (p ≡ 0) × (s.published ≡ None)) → (now s).seen p ≡ k.seen_stop
    → ((n i : ℕ) → k.number ≡ Some n → IsListed i k.emptied → IsEmptied t n s i) → (k.number ≡ None → k.emptied ≡ []) → Knows t s p k
knows_by number unpublished seen emptied unread = record { number = number; unpublished = unpublished; seen = seen; emptied = emptied; unread = unread }

-- it goes on being so, where what is free was, and the round's record says the same of stops
pub knows_on : {t p : ℕ} {s s' : State} {k : Known} {r : Round} → Knows t s p k → s'.published ≡ s.published → now s' ≡ r
    → r.stoppable ≡ (now s).stoppable → r.seen p ≡ (now s).seen p → r.stopped ≡ (now s).stopped → ((j : ℕ) → Free s' j → Free s j) → Knows t s' p k
knows_on {t = t} {p = p} {s = s} k published round may seen stopped back = knows_by
    (λ n e. let old = k.number n e in (published ∙ old.0, ap (λ (z : Round). z.stoppable) round ∙ (may ∙ old.1)))
    (λ e. let old = k.unpublished e in (old.0, published ∙ old.1)) (ap (λ (z : Round). z.seen p) round ∙ (seen ∙ k.seen))
    (λ n i e l. ⊎_elim (λ (none_left : (j : ℕ) → Free s j → home_of t n j ≡ i → ⊥). inl (λ j f. none_left j (back j f)))
    (λ st. inr (ap (λ (z : Round). z.stopped) round ∙ (stopped ∙ st))) (k.emptied n i e l)) k.unread

-- a party inside a round that it knows nothing of, but whether it has seen a stop
pub knows_none : {t p : ℕ} {s : State} (leads seen : Bool) → (leads ≡ true → (p ≡ 0) × (s.published ≡ None)) → (now s).seen p ≡ seen
    → Knows t s p (unknown leads seen)
knows_none leads seen hidden same = knows_by (λ n e. absurd cc) hidden same (λ n i e l. absurd l) (λ _. refl)

-- the status alone of its party changes, and where the seat stands
pub reseated : {N : Type 0} {s s' : State} {p : ℕ} {v : View N} {st : Status} (x : Trace Kind) (to : Standing) (k : Known) → Shows s p v
    → party s' p ≡ with_status st (party s p) → Stands s' p to → ((q : ℕ) → to ≡ Inside q → Knows v.threads s' p k) → Shows s' p (noted x (standing to k v))
reseated {v = v} x to k w look stands inside = shows_by stands w.leads (ap (λ (z : Party). z.running) look ∙ w.claim)
    (subst (λ (f : ℕ → Bool). IsShare f v.from v.to) (sym (ap (λ (z : Party). z.taken) look)) w.share) inside

-- while nothing is published the leader has laid what its words say
pub laid_hidden : {N : Type 0} {t : ℕ} {s : State} {ws : List ℕ} {v : View N} → s.published ≡ None
    → ((i x : ℕ) → stored_at v.known.stored i ≡ Some x → (finished_at ≤ i) × (get_or ws i 0 ≡ x))
    → ((q : ℕ) → v.laid ≡ Some q → StandsFor t (s.rounds q) ws) → Laid t s ws v
laid_hidden hidden stored left = record { stored = stored; unstored = λ is. absurd (is hidden); current = λ is. absurd (is hidden); left = λ q e _. left q e }

pub untrue : (b : Bool) → (b ≡ true → ⊥) → b ≡ false
untrue true n = absurd (n refl)
untrue false n = refl

pub some_of : (o : Option ℕ) → o ≢ None → (n : ℕ) × (o ≡ Some n)
some_of None n = absurd (n refl)
some_of (Some k) n = (k, refl)

module _ {N : Type 0} (s s' : State) (q : ℕ) (v : View N) (w : Shows s q v) (alone : s.closer ≡ Some q → ⊥) where
  inside_in : (r : ℕ) → v.standing ≡ Inside r → (party s q).status ≡ In
  inside_in r e = (subst (Stands s q) e w.stands).0

  -- what it knows stays, while the round goes on
  still_knows : Steady s s' q → (party s q).status ≡ In → Knows v.threads s q v.known → Knows v.threads s' q v.known
  still_knows f at_in k = knows_by (λ n e. let old = k.number n e in (f.published n at_in old.0, f.may_stop (λ z. cc) ∙ old.1))
      (λ e. let old = k.unpublished e in (old.0, f.hidden (inl old.0) old.1)) (f.seen ∙ k.seen)
      (λ n i e l. ⊎_elim (λ (none_left : (j : ℕ) → Free s j → home_of v.threads n j ≡ i → ⊥). ⊎_elim
      (λ (fr : s.published ≢ None → Frees s s'). inl (λ j g. none_left j (fr (let a = (k.number n e).0 in (λ z. cc)) j g))) inr f.frees)
      (λ st. inr (f.stops st)) (k.emptied n i e l)) k.unread

  steady : Steady s s' q → Shows s' q v
  steady f = shows_by (go v.standing w.stands) w.leads (ap (λ (x : Party). x.running) f.same ∙ w.claim)
      (subst (λ (x : Party). IsShare x.taken v.from v.to) (sym f.same) w.share) (λ r e. still_knows f (inside_in r e) (w.inside r e))
    where
      go : (st : Standing) → Stands s q st → Stands s' q st
      go Away h = (ap (λ (x : Party). x.status) f.same ∙ h.0, f.closer.1 h.1)
      go (Inside r) h = (ap (λ (x : Party). x.status) f.same ∙ h.0, f.round ∙ h.1)
      go (Waiting r quiet) h = ⊎_elim (λ (t : ((party s q).status ≡ Arrived) × (s.round ≡ r) × (s.closer ≢ Some q) ×
          (quiet ≡ true → (q ≡ 0) × (s.published ≡ None))).
          inl (ap (λ (x : Party). x.status) f.same ∙ t.0, f.round ∙ t.1, f.closer.1 t.2, λ e. ((t.3 e).0, f.hidden (inl (t.3 e).0) (t.3 e).1)))
          (λ (t : ((party s q).status ≡ In) × (s.round ≡ suc r) × (q ≡ 0 → s.published ≡ None) × ((now s).seen q ≡ false)). inr
          (ap (λ (x : Party). x.status) f.same ∙ t.0, f.round ∙ t.1, (λ e. f.hidden (inl e) (t.2 e)), f.seen ∙ t.3)) h
      go (Closing r member cleared at) h = absurd (alone h.0)

  turned : Turned s s' q → Shows s' q v
  turned f = shows_by (go v.standing w.stands) w.leads (ap (λ (x : Party). x.running) f.same ∙ w.claim)
      (subst (λ (x : Party). IsShare x.taken v.from v.to) (sym f.same) w.share) (λ r e. absurd (f.out (inside_in r e)))
    where
      woke : (t : Status) → (party s q).status ≡ t → (party s' q).status ≡ waking t
      woke t e = ap (λ (x : Party). x.status) f.same ∙ ap waking e

      go : (st : Standing) → Stands s q st → Stands s' q st
      go Away h = (woke Out h.0, f.closer)
      go (Inside r) h = absurd (f.out h.0)
      go (Waiting r quiet) h = ⊎_elim (λ (t : ((party s q).status ≡ Arrived) × (s.round ≡ r) × (s.closer ≢ Some q) ×
          (quiet ≡ true → (q ≡ 0) × (s.published ≡ None))). inr (woke Arrived t.0, f.round ∙ ap suc t.1, (λ _. f.hidden), f.seen))
          (λ (t : ((party s q).status ≡ In) × (s.round ≡ suc r) × (q ≡ 0 → s.published ≡ None) × ((now s).seen q ≡ false)). absurd (f.out t.0)) h
      go (Closing r member cleared at) h = absurd (f.before h.0)

pub others_shown : {N : Type 0} (s : State) → Sound s → (e : Event) (q : ℕ) → Allowed s e → q ≢ by e → (v : View N) → Shows s q v → Shows (after s e) q v
others_shown s h e q ok other v w = let alone : s.closer ≡ Some q → ⊥ = (λ c. other (sym (closer_alone s h e q ok c))) in
    ⊎_elim (steady s (after s e) q v w alone) (turned s (after s e) q v w alone) (frame s h e q ok other)

-- events of the party p alone
abbrev pub AllBy : ℕ → List Event → Type 0
AllBy p [] = Unit {0}
AllBy p (e ∷ es) = (by e ≡ p) × AllBy p es

-- the same over the few events of one step
pub others_run : {N : Type 0} (p q : ℕ) (v : View N) → q ≢ p → (new run : List Event) → AllBy p new → IsRun (new ++ run) → Shows (state run) q v ×
    (deeds_of v.trail ≡ deeds q run) → Shows (state (new ++ run)) q v × (deeds_of v.trail ≡ deeds q (new ++ run))
others_run p q v other [] run all ok h = h
others_run p q v other (e ∷ es) run all ok h = let r = others_run p q v other es run all.1 ok.1 h in let mine = all.0 in (
  others_shown (state (es ++ run)) (sound (es ++ run) ok.1) e q ok.0 (λ z. other (z ∙ mine)) v r.0,
  r.1 ∙ sym (ap (λ (b : Bool). (if b then deed (state (es ++ run)) e else []) ++ deeds q (es ++ run)) (ne_eqb (by e) q (λ z. other (sym z ∙ mine)))),
)

-- nobody there stays nobody
pub nobody_run : (p q : ℕ) → q ≢ p → (new run : List Event) → AllBy p new → IsRun (new ++ run) → (party (state run) q ≡ absent) × ((state run).closer ≢ Some q)
    × (deeds q run ≡ [])
    → (party (state (new ++ run)) q ≡ absent) × ((state (new ++ run)).closer ≢ Some q) × (deeds q (new ++ run) ≡ [])
nobody_run p q other [] run all ok h = h
nobody_run p q other (e ∷ es) run all ok h = let r = nobody_run p q other es run all.1 ok.1 h in let mine = all.0 in let s : State = state (es ++ run) in
    let none_here = ne_eqb (by e) q (λ z. other (sym z ∙ mine)) in
    let same : (party (after s e) q ≡ absent) × ((after s e).closer ≢ Some q) = ⊎_elim (λ (f : Steady s (after s e) q). (f.same ∙ r.0, f.closer.1 r.1))
    (λ (f : Turned s (after s e) q). (f.same ∙ ap (λ (x : Party). with_status (waking x.status) x) r.0, f.closer))
    (frame s (sound (es ++ run) ok.1) e q ok.0 (λ z. other (z ∙ mine))) in
    (same.0, same.1, ap (λ (b : Bool). (if b then deed s e else []) ++ deeds q (es ++ run)) none_here ∙ r.2)

-- the numbers of a round that were not begun, where its numbers stay and the words do
pub stands_on : (t : ℕ) (r r' : Round) (ws ws' : List ℕ) → r'.jobs ≡ r.jobs → ((k : ℕ) → times k r'.begun ≡ times k r.begun) →
    ((i : ℕ) → remainder_at ≤ i → get_or ws' i 0 ≡ get_or ws i 0) → StandsFor t r ws → StandsFor t r' ws'
stands_on t r r' ws ws' jobs begun same h k = let b = begun k in
    subst (λ (n : ℕ). (((k < n) × (times k r'.begun ≡ 0)) → IsLeft t ws' n k) × (IsLeft t ws' n k → (k < n) × (times k r'.begun ≡ 0))) (sym jobs)
    ((λ e. moved ws ws' (λ i le. sym (same i le)) ((h k).0 (e.0, sym b ∙ e.1))), (λ l. let e = (h k).1 (moved ws' ws same l) in (e.0, b ∙ e.1)))
  where
    moved : (xs ys : List ℕ) → ((i : ℕ) → remainder_at ≤ i → get_or xs i 0 ≡ get_or ys i 0) → IsLeft t xs r.jobs k → IsLeft t ys r.jobs k
    moved xs ys e = ⊎_elim (λ (z : (i : ℕ) × (i < t) × InRange xs i k). inl
        (z.0, z.1, subst (λ (x : ℕ). (x % high_half ≤ k) × (k < x / high_half)) (e (range_at z.0) (omega arith)) z.2))
        (λ (z : InRemainder xs r.jobs k). inr (subst (λ (x : ℕ). (r.jobs ≤ k + x) × (k < r.jobs)) (e remainder_at (omega arith)) z))

module _ {X N : Type 0} (D : Discipline X N) (t : ℕ) where
  abbrev pub Rule : List Event → table.State X (View N) → Type 0
  Rule = ShownBy D t

  abbrev pub SeatOf : Type 0
  SeatOf = Me X (View N)

  -- the seat's few new events, the word i changed to x, and the view w
  pub moves_with : (run : List Event) (s : table.State X (View N)) (r : Rule run s) (i x id : ℕ) (me : SeatOf) (w : View N) (a : Act X) (new : List Event)
      → get_elem? s.views id ≡ some me.0 → AllBy id new → IsRun (new ++ run)
      → Words t (state (new ++ run)) (set s.words i x) → Shows (state (new ++ run)) id w → deeds_of w.trail ≡ deeds id (new ++ run) → w.threads ≡ me.0.threads
      → ((v : View N) → get_elem? (set s.views id w) 0 ≡ some v → Laid t (state (new ++ run)) (set s.words i x) v)
      → D.clause (state (new ++ run)) (homes_after s.homes me.1 a) (set s.views id w) → Rule (new ++ run) (stepped s i x id me.1 w a)
  moves_with run s r i x id me w a new at all ok words mine worked same_threads lays slots = record {
    slots = slots;
    is_run = ok;
    words = words;
    seats = λ q v e. ⊎_elim (λ (h : (q ≡ id) × (w ≡ v)). subst (λ (z : ℕ × View N). Shows (state (new ++ run)) z.0 z.1 ×
        (deeds_of z.1.trail ≡ deeds z.0 (new ++ run)) × (z.1.threads ≡ t)) (λ j. (sym h.0 j, h.1 j)) (mine, worked, same_threads ∙ (r.seats id me.0 at).2))
        (λ (h : (q ≢ id) × (get_elem? s.views q ≡ some v)). let old = r.seats q v h.1 in let o = others_run id q v h.0 new run all ok (old.0, old.1) in
        (o.0, o.1, old.2)) (at_set s.views id q w v e);
    lays = lays;
    beyond = λ q le. nobody_run id q (λ e. let lt = in_list s.views id me.0 at in let same = length-set s.views id w in
        absurd (omega arith)) new run all ok (r.beyond q (let same = length-set s.views id w in omega arith));
  }

  -- a step on the first two words, which leaves the jobs and what has begun
  abbrev pub IsLow : State → State → ℕ → Type 0
  IsLow S S' i = (i < finished_at) × ((q : ℕ) → (S'.rounds q).jobs ≡ (S.rounds q).jobs) × ((q k : ℕ) → times k (S'.rounds q).begun ≡ times k (S.rounds q).begun)

  -- what the leader has stored stays: at a step on the first two words, or in a published round
  pub still_laid : (run : List Event) (s : table.State X (View N)) (r : Rule run s) (i x id : ℕ) (me : SeatOf) (w : View N) (new : List Event)
      → get_elem? s.views id ≡ some me.0
      → ((w.known.stored ≡ []) ⊎ (w.known.stored ≡ me.0.known.stored)) → w.laid ≡ me.0.laid → (state (new ++ run)).published ≡ (state run).published
      → ((state run).published ≢ None → (state (new ++ run)).round ≡ (state run).round)
      → IsLow (state run) (state (new ++ run)) i ⊎ ((state run).published ≢ None)
      → (v : View N) → get_elem? (set s.views id w) 0 ≡ some v → Laid t (state (new ++ run)) (set s.words i x) v
  still_laid run s r i x id me w new at stored laid published round where_it_is v e = ⊎_elim
      (λ (h : (0 ≡ id) × (w ≡ v)). let l = r.lays me.0 (subst (λ (z : ℕ). get_elem? s.views z ≡ some me.0) (sym h.0) at) in
      subst (Laid t (state (new ++ run)) (set s.words i x)) h.1 (on me.0 w l stored laid))
      (λ (h : (0 ≢ id) × (get_elem? s.views 0 ≡ some v)). on v v (r.lays v h.1) (inr refl) refl) (at_set s.views id 0 w v e)
    where
      S : State
      S = state run

      S' : State
      S' = state (new ++ run)

      on : (u u' : View N) → Laid t S s.words u → (u'.known.stored ≡ []) ⊎ (u'.known.stored ≡ u.known.stored) → u'.laid ≡ u.laid → Laid t S'
          (set s.words i x) u'
      on u u' l st la = record {
        stored = λ j y e. ⊎_elim (λ (z : u'.known.stored ≡ []). let n = ap (λ (a : List (ℕ × ℕ)). stored_at a j) z in
            absurd cc) (λ (z : u'.known.stored ≡ u.known.stored). ⊎_elim
            (λ (low : IsLow S S' i).
            let old = l.stored j y (sym (ap (λ (a : List (ℕ × ℕ)). stored_at a j) z) ∙ e) in let lt = low.0 in let le = old.0 in
            (old.0, get_or-set_other s.words i j x 0 (λ b. omega arith) ∙ old.1))
            (λ is. let none_stored = z ∙ l.unstored is in let n = ap (λ (a : List (ℕ × ℕ)). stored_at a j) none_stored in absurd cc) where_it_is) st;
        unstored = λ is. ⊎_elim (λ z. z) (λ z. z ∙ l.unstored (λ n. is (published ∙ n))) st;
        current = λ is. la ∙ (l.current (λ n. is (published ∙ n)) ∙ ap (λ (z : ℕ). Some z) (sym (round (λ n. is (published ∙ n)))));
        left = λ q e hid. ⊎_elim (λ (low : IsLow S S' i). let lt = low.0 in stands_on t (S.rounds q) (S'.rounds q) s.words (set s.words i x) (low.1 q) (low.2 q)
            (λ j le. get_or-set_other s.words i j x 0 (λ z. omega arith)) (l.left q (sym la ∙ e) (sym published ∙ hid)))
            (λ is. absurd (is (sym published ∙ hid))) where_it_is;
      }

module _ {X N : Type 0} (D : Discipline X N) (law : Lawful D) (t : ℕ) where
  -- a step at which no number begins, finishes or is published, and nothing is cleared
  pub moves : (run : List Event) (s : table.State X (View N)) (r : Rule D t run s) (i x id : ℕ) (me : SeatOf D t) (w : View N) (new : List Event)
      → get_elem? s.views id ≡ some me.0 → AllBy id new → AllQuiet new → SameSlots me.0 w → IsRun (new ++ run)
      → Words t (state (new ++ run)) (set s.words i x) → Shows (state (new ++ run)) id w → deeds_of w.trail ≡ deeds id (new ++ run) → w.threads ≡ me.0.threads
      → ((w.known.stored ≡ []) ⊎ (w.known.stored ≡ me.0.known.stored)) → w.laid ≡ me.0.laid → (state (new ++ run)).published ≡ (state run).published →
      (i < finished_at) ⊎ ((state run).published ≢ None) → Rule D t (new ++ run) (stepped s i x id me.1 w keeps)
  moves run s r i x id me w new at all quiets slots ok words mine worked same_threads stored laid published where_it_is = let q = quiet_run new run quiets ok in
      moves_with D t run s r i x id me w keeps new at all ok words mine worked same_threads
      (still_laid D t run s r i x id me w new at stored laid published (λ is. let z = some_of (state run).published is in
      (q.published z.0 (published ∙ z.1)).1) (⊎_elim (λ (low : i < finished_at). inl (low, q.jobs, q.begun)) inr where_it_is))
      (law.stays (state run) (state (new ++ run)) s.homes s.views id me.0 w r.slots q at slots)

  -- a step that leaves the word, and no event
  pub stays : (run : List Event) (s : table.State X (View N)) (r : Rule D t run s) (i id : ℕ) (me : SeatOf D t) (w : View N) → get_elem? s.views id ≡ some me.0
      → SameSlots me.0 w → Shows (state run) id w → deeds_of w.trail ≡ deeds_of me.0.trail → w.threads ≡ me.0.threads
      → ((w.known.stored ≡ []) ⊎ (w.known.stored ≡ me.0.known.stored)) → w.laid ≡ me.0.laid → Rule D t run (stepped s i (get_or s.words i 0) id me.1 w keeps)
  stays run s r i id me w at slots mine same same_threads stored laid = let here = set-get_or s.words i 0 in
      subst (λ (ws : List ℕ). Rule D t run record { words = ws; homes = s.homes; views = set s.views id w }) (sym here)
      (subst (λ (ws : List ℕ). Rule D t run record { words = ws; homes = s.homes; views = set s.views id w }) (set-get_or s.words barrier_at 0)
      (moves run s r 0 (get_or s.words barrier_at 0) id me w [] at tt tt slots r.is_run
      (subst (Words t (state run)) (sym (set-get_or s.words barrier_at 0)) r.words) mine (same ∙ (r.seats id me.0 at).1) same_threads stored laid refl
      (inl (omega arith))))

-- one step more in the trail
pub noted_shows : {N : Type 0} (s : State) (p : ℕ) (v : View N) (x : Trace Kind) → Shows s p v → Shows s p (noted x v)
noted_shows s p v x w = shows_by w.stands w.leads w.claim w.share w.inside

-- What a step owes, by the shape of what it tells.
module _ {X N : Type 0} (D : Discipline X N) (law : Lawful D) (t slots id : ℕ) (me : SeatOf D t) (i : ℕ) where
  -- the table before the step, x being what the word holds
  pub record Before (run : List Event) (s : table.State X (View N)) : Type 0 where
    pub rule : Rule D t run s
    pub at : get_elem? s.views id ≡ some me.0
    pub small : get_or s.words i 0 < 18446744073709551616

  -- a load, or a change of any word whatever it holds
  pub turns : (g : ℕ → ℕ) (new : List Event) (f : ℕ → View N → View N) (st : Step X) →
      ((run : List Event) (s : table.State X (View N)) → Before run s → Rule D t (new ++ run)
      (stepped s i (g (get_or s.words i 0)) id me.1 (f (get_or s.words i 0) me.0) keeps))
      → Adds D t slots id me i g (λ _. new) (Turns f st me)
  turns g new f st owed = record {
    shows = λ run s r _ at small. (f (get_or s.words i 0) me.0, keeps, tt, owed run s record { rule = r; at = at; small = small }, (refl, refl));
  }

  -- a load after which the seat has this standing, and knows this
  pub reads : (st : ℕ → Standing) (k : ℕ → Known) (says : ℕ → Me X (View N) → Type 0) → ((x : ℕ) → (k x).stored ≡ me.0.known.stored) →
      ((run : List Event) (s : table.State X (View N)) → Before run s → let x : ℕ = get_or s.words i 0 in
      let w : View N = loading i x (standing (st x) (k x) me.0) in Shows (state run) id w × says x (w, me.1)) → Adds D t slots id me i (λ n. n) (λ _. []) says
  reads st k says stored owed = record {
    shows = λ run s r _ at small. let x : ℕ = get_or s.words i 0 in let w : View N = loading i x (standing (st x) (k x) me.0) in
        let o = owed run s record { rule = r; at = at; small = small } in
        (w, keeps, tt, stays D law t run s r i id me w at (refl, refl, refl) o.0 refl refl (inr (stored x)) refl, o.1);
  }

  pub stores : (x : ℕ) (new : List Event) (f : ℕ → View N → View N) (st : Step X) →
      ((run : List Event) (s : table.State X (View N)) → Before run s → Rule D t (new ++ run) (stepped s i x id me.1 (f x me.0) keeps))
      → Adds D t slots id me i (λ _. x) (λ _. new) (λ _. Turns f st me x)
  stores x new f st owed = record { shows = λ run s r _ at small. (f x me.0, keeps, tt, owed run s record { rule = r; at = at; small = small }, (refl, refl)) }

  -- an exchange that finds another value
  pub misses : (run : List Event) (s : table.State X (View N)) (r : Rule D t run s) → get_elem? s.views id ≡ some me.0 → (old to : ℕ) (new : List Event)
      → get_or s.words i 0 ≢ old
      → let x : ℕ = get_or s.words i 0 in Rule D t ((if x == old then new else []) ++ run)
      (stepped s i (either (x == old) to x) id me.1 (missing i x me.0) keeps)
  misses run s r at old to new miss = let x : ℕ = get_or s.words i 0 in
      subst (λ b. Rule D t ((if b then new else []) ++ run) (stepped s i (either b to x) id me.1 (missing i x me.0) keeps)) (sym (ne_eqb x old miss))
      (stays D law t run s r i id me (missing i x me.0) at (refl, refl, refl) (noted_shows (state run) id me.0 _ (r.seats id me.0 at).0) refl refl
      (inr refl) refl)

  -- an exchange that finds what it expects
  pub hits : (run : List Event) (s : table.State X (View N)) (old to : ℕ) (new : List Event) (w : View N) (a : Act X) → get_or s.words i 0 ≡ old → Rule D t
      (new ++ run) (stepped s i to id me.1 w a)
      → let x : ℕ = get_or s.words i 0 in Rule D t ((if x == old then new else []) ++ run) (stepped s i (either (x == old) to x) id me.1 w a)
  hits run s old to new w a hit r = let x : ℕ = get_or s.words i 0 in
      subst (λ b. Rule D t ((if b then new else []) ++ run) (stepped s i (either b to x) id me.1 w a)) (sym (eq-eqb x old hit)) r

  pub exchanges : (old to : ℕ) (new : List Event) (f : ℕ → View N → View N) →
      ((run : List Event) (s : table.State X (View N)) → Before run s → get_or s.words i 0 ≡ old → Rule D t (new ++ run)
      (stepped s i to id me.1 (f (get_or s.words i 0) me.0) keeps))
      → Exchange D t slots id me i old to new (Exchanges f)
  exchanges old to new f owed = record {
    shows = λ run s r _ at small. let x : ℕ = get_or s.words i 0 in dite (ℕ_discrete x old) (λ hit. (
      f x me.0,
      keeps,
      tt,
      hits run s old to new (f x me.0) keeps hit (owed run s record { rule = r; at = at; small = small } hit),
      (refl, (λ _. refl), λ not. absurd (not hit)),
    )) (λ miss. (missing i x me.0, keeps, tt, misses run s r at old to new miss, (refl, (λ hit. absurd (miss hit)), λ _. refl)));
  }

  -- an exchange with which a number begins
  pub begins_by : (old to : ℕ) (new : List Event) (number : ℕ → ℕ) (f : ℕ → Option N → View N → View N)
      → ((run : List Event) (s : table.State X (View N)) → Before run s → get_or s.words i 0 ≡ old → (x : Option N) × (a : Act X) × Valid s.homes me.1 a
      × Rule D t (new ++ run) (stepped s i to id me.1 (f old x me.0) a) × D.took (number old) me.1 x (carried_after me.1 a))
      → Exchange D t slots id me i old to new (Begun D number f)
  begins_by old to new number f owed = record {
    shows = λ run s r _ at small. let x : ℕ = get_or s.words i 0 in dite (ℕ_discrete x old)
        (λ hit. let o = owed run s record { rule = r; at = at; small = small } hit in (
          f old o.0 me.0,
          o.1,
          o.2,
          hits run s old to new (f old o.0 me.0) o.1 hit o.3,
          (
            (λ _. (o.0, (λ j. f (sym hit j) o.0 me.0), subst (λ (z : ℕ). D.took (number z) me.1 o.0 (carried_after me.1 o.1)) (sym hit) o.4)),
            λ not. absurd (not hit),
          ),
        ))
        (λ miss. (missing i x me.0, keeps, tt, misses run s r at old to new miss, ((λ hit. absurd (miss hit)), λ _. (refl, refl))));
  }

-- so the rule stands after the step
pub kept : {X N : Type 0} {D : Discipline X N} {t slots id : ℕ} {me : Me X (View N)} {i : ℕ} {f : ℕ → ℕ} {new : ℕ → List Event} {says : ℕ → Me X (View N)
    → Type 0} → Adds D t slots id me i f new says → Allows (Shown D t) slots id me i f says
kept {i = i} {new = new} a s r wide at small = let o = a.shows r.run s r.by_run wide at small in
    (o.0, o.1, o.2, record { run = new (get_or s.words i 0) ++ r.run; by_run = o.3 }, o.4)

pub kept_split : {X N : Type 0} {D : Discipline X N} {t id : ℕ} {v left right : View N} → ((run : List Event) → Splits (ShownBy D t run) id v left right)
    → Splits (Shown D t) id v left right
kept_split a s r at = record { run = r.run; by_run = a r.run s r.by_run at }
