-- The leader's stores: the words of a round to come, and the number itself.
use Rattle.std.proofs.Common.{◌≡◌, ◌≢◌, inl, inr, ⊎_elim, ℕ, zero, suc, ◌+◌, ◌*◌, ◌/◌, ◌%◌, ◌<◌, ◌≤◌, Bool, true, false, eq-eqb, List, [], ◌∷◌, ◌++◌, length}
use Rattle.std.proofs.Common.{get_or, set, length-set, get_or-set_same, get_or-set_other, div-add-mod', zero-mul, sym, refl, ap, ◌∙◌, subst, arith, Some}
use Rattle.std.proofs.Common.{if◌then◌else◌}
use Rattle.std.proofs.Math.Nat.{mul-le-mul_left}
use mathlib.Core.Logic.{dite}
use mathlib.Core.Option.{none, some}
use native.Mathlib.Decide.{ℕ_discrete, dec_le}
use native.Mathlib.Nat.{div-lt_iff_lt-mul}
use lib.ListN.{get_elem?}
use Rattle.atomic_table.specs.Table as table
use Rattle.atomic_table.specs.Table.{step, keeps, stepped}
use Rattle.atomic_table.proofs.Lists.{at_set}
use Rattle.spindle_parts.specs.State.{State, Round, now, Free, times}
use Rattle.spindle_parts.specs.Steps.{Event, Publish, PublishTry, IsPublishable, Allowed, after, by, publish}
use Rattle.spindle_parts.specs.Runs.{state}
use Rattle.spindle_parts.proofs.Parties.{put_here, put_all, tick_same}
use Rattle.spindle_parts.proofs.Fates.{none_begun, open_is_free, over}
use Rattle.spindle_parts.proofs.Soundness.{sound, no_closer}
use Rattle.spindle_rounds.specs.declared.round_table.view.Standing.TheVariants.{Inside}
use Rattle.spindle_rounds.specs.declared.round_table.view.View.{View}
use Rattle.spindle_rounds.specs.RoundSlots.{Discipline, Lawful, Publishes}
use Rattle.spindle_rounds.specs.RoundRule.{Laid, stored_at, IsFilled, fill_value}
use Rattle.spindle_rounds.specs.RoundShown.{Deed, Showed, deed, deeds, Stands, Shows, Counters, InRange, Words, home_of, number_of}
use Rattle.spindle_rounds.specs.Words.{barrier_at, published_at, finished_at, stopped_at, remainder_at, range_at, filled_at, high_half, most_jobs}
use Rattle.spindle_rounds.specs.RoundSteps.{round_of, filling, publish_word, publishing}
use Rattle.spindle_rounds.specs.RoundTells.{FillTells, PublishTells, PublishTryTells}
use Rattle.spindle_rounds.specs.RoundRuns.{Store}
use Rattle.spindle_rounds.proofs.RoundQuiet.{unchanged}
use Rattle.spindle_rounds.proofs.RoundMoves.{Rule, SeatOf, Before, stores, moves_with, untrue, shows_by, knows_by, laid_hidden}
use Rattle.spindle_rounds.proofs.RoundWords.{by_equal, by_less, hidden_shown}

module _ {X N : Type 0} (D : Discipline X N) (law : Lawful D) (t : ℕ) where
  pub fills : (slots id : ℕ) (me : SeatOf D t) (q j x : ℕ) → j < 3 + t → me.0.standing ≡ Inside q → me.0.known.unpublished ≡ true → Store D t slots id me
      (filled_at j) x [] FillTells
  fills slots id me q j x low inside_q alone = let i : ℕ = filled_at j in
      stores D law t slots id me i x [] (filling i) (step slots i x 0 none) (λ run s b. let r = b.rule in let at = b.at in let S : State = state run in
      let seat = r.seats id me.0 at in let shows = seat.0 in let knows = shows.inside q inside_q in let only = knows.unpublished alone in let hidden = only.1 in
      let w : View N = filling i x me.0 in let wide = r.words.wide in
      let other : (k : ℕ) → k < finished_at → get_or (set s.words i x) k 0 ≡ get_or s.words k 0 =
      (λ k lt. get_or-set_other s.words i k x 0 (λ e. omega arith)) in moves_with D t run s r i x id me w keeps [] at tt r.is_run
      (hidden_shown (length-set s.words i x ∙ r.words.wide) (other barrier_at (omega arith) ∙ r.words.barrier)
      (other published_at (omega arith) ∙ r.words.published) hidden)
      (shows_by shows.stands shows.leads shows.claim shows.share (λ q e. let k = shows.inside q e in knows_by k.number k.unpublished k.seen k.emptied k.unread))
      seat.1 refl
      (λ v e. ⊎_elim (λ (h : (0 ≡ id) × (w ≡ v)). let l = r.lays me.0 (subst (λ (a : ℕ). get_elem? s.views a ≡ some me.0) (sym h.0) at) in
      subst (Laid t S (set s.words i x)) h.1
      (laid_hidden hidden (λ k y. by_equal i k (λ b. (if b then Some x else stored_at me.0.known.stored k) ≡ Some y → (finished_at ≤ k) ×
      (get_or (set s.words i x) k 0 ≡ y))
      (λ same z. let a : x ≡ y = cc in
      (omega arith, subst (λ (c : ℕ). get_or (set s.words i x) c 0 ≡ y) same (get_or-set_same s.words i x 0 (omega arith) ∙ a)))
      (λ apart z. let old = l.stored k y z in (old.0, get_or-set_other s.words i k x 0 (λ e. apart (sym e)) ∙ old.1))) (λ q e. absurd cc)))
      (λ (h : (0 ≢ id) × (get_elem? s.views 0 ≡ some v)). absurd (h.0 (sym only.0))) (at_set s.views id 0 w v e))
      (law.stays S S s.homes s.views id me.0 w r.slots (unchanged S) at (refl, refl, refl)))

  pub fills_range : (slots id : ℕ) (me : SeatOf D t) (q i x : ℕ) → i < t → me.0.standing ≡ Inside q → me.0.known.unpublished ≡ true → Store D t slots id me
      (range_at i) x [] FillTells
  fills_range slots id me q i x low inside_q alone = let at : filled_at (3 + i) ≡ range_at i = omega arith in
      subst (λ (k : ℕ). Store D t slots id me k x [] FillTells) at (fills slots id me q (3 + i) x (omega arith) inside_q alone)

-- the d numbers from d * i on are those whose quotient is i
block : (d i k : ℕ) → 0 < d → d * i ≤ k → k < d * i + d → k / d ≡ i
block d i k most low high = let a = (div-lt_iff_lt-mul {k = d} {x = k} {y = i + 1} most).1 (omega arith) in
    let b : (k / d < i) → ⊥ = (λ z. let c = (div-lt_iff_lt-mul {k = d} {x = k} {y = i} most).0 z in omega arith) in
    dite (dec_le i (k / d)) (λ le. omega arith) (λ no. absurd (b (omega arith)))

no_times : (l : List ℕ) → ((k : ℕ) → times k l ≡ 0) → length l ≡ 0
no_times [] z = refl
no_times (x ∷ xs) z = let a = z x in let b = tick_same x in absurd (omega arith)

-- the words that `fill` stores for n jobs stand for the n numbers
module _ (t n : ℕ) (S' : State) (ws : List ℕ) (free : (k : ℕ) → k < n → Free S' k) (below : (k : ℕ) → Free S' k → k < n) (few : n ≤ most_jobs)
    (rest : get_or ws remainder_at 0 ≡ n % t) (stored : (i : ℕ) → i < t → get_or ws (range_at i) 0 ≡ n / t * i + high_half * (n / t * i + n / t)) where
  in_all : (i : ℕ) → i < t → n / t * i + n / t + n % t ≤ n
  in_all i lt = let e = div-add-mod' n t in let m : n / t * suc i ≤ n / t * t = mul-le-mul_left (n / t) lt in omega arith

  range : (i k : ℕ) → i < t → InRange ws i k → (n / t * i ≤ k) × (k < n / t * i + n / t)
  range i k lt z = let v : ℕ = get_or ws (range_at i) 0 in let e = stored i lt in let a = in_all i lt in let lo : ℕ = n / t * i in let d : ℕ = n / t in
      let e' : v ≡ lo + high_half * (lo + d) = e in let z₀ = z.0 in let z₁ = z.1 in let a' : lo + d + n % t ≤ n = a in (omega arith, omega arith)

  into : (i k : ℕ) → i < t → n / t * i ≤ k → k < n / t * i + n / t → InRange ws i k
  into i k lt low high = let v : ℕ = get_or ws (range_at i) 0 in let e = stored i lt in let a = in_all i lt in let lo : ℕ = n / t * i in let d : ℕ = n / t in
      let e' : v ≡ lo + high_half * (lo + d) = e in let a' : lo + d + n % t ≤ n = a in let l' : lo ≤ k = low in let h' : k < lo + d = high in
      (omega arith, omega arith)

  at_home : (i k : ℕ) → i < t → InRange ws i k → home_of t n k ≡ i
  at_home i k lt z = let a = range i k lt z in let a₀ = a.0 in let a₁ = a.1 in let b = in_all i lt in
      by_less (k + n % t) n (λ b. (if b then k / (n / t) else t) ≡ i) (λ _. block (n / t) i k (omega arith) a₀ a₁) (λ le. absurd (omega arith))

  pub filled_counters : Counters t S' ws n
  filled_counters = record {
    free = λ k f. dite (dec_le n (k + n % t)) (λ le. inr ((let e = rest in omega arith), below k f))
        (λ no. let e = div-add-mod' n t in let d : ℕ = n / t in let e' : d * t + n % t ≡ n = e in
        let some : 0 < d = dite (ℕ_discrete d 0) (λ z. let y : d * t ≡ 0 = ap (λ (a : ℕ). a * t) z ∙ zero-mul t in
        absurd (omega arith)) (λ z. omega arith) in let lt : k / d < t = (div-lt_iff_lt-mul {k = d} {x = k} {y = t} some).1 (omega arith) in
        let m = div-add-mod' k d in let r : k % d < d = omega arith in inl (k / d, lt, into (k / d) k lt (omega arith) (omega arith)));
    ranges = λ i k lt z. let a = range i k lt z in let a₀ = a.0 in let a₁ = a.1 in let b = in_all i lt in free k (omega arith);
    remainder = λ k z. free k z.1;
    few = let e = rest in omega arith;
    home = λ _. at_home;
    apart = λ i j k x y z w. sym (at_home i k x z) ∙ at_home j k y w;
    remainder_apart = λ i k lt z y. let a = range i k lt z in let a₁ = a.1 in let b = in_all i lt in let e = rest in let y₀ = y.0 in omega arith;
    ordered = λ i lt. let v : ℕ = get_or ws (range_at i) 0 in let e = stored i lt in let lo : ℕ = n / t * i in let d : ℕ = n / t in
        let e' : v ≡ lo + high_half * (lo + d) = e in let a' : lo + d + n % t ≤ n = in_all i lt in omega arith;
  }

-- the event that publishes
abbrev pub shows_number : Bool → ℕ → ℕ → Event
shows_number false p n = Publish p n
shows_number true p n = PublishTry p n

-- it publishes, where it may, and is this party's, with the deed that is shown
shows_as : (b : Bool) (S : State) (n id : ℕ) → (after S (shows_number b id n) ≡ publish S b n) × (by (shows_number b id n) ≡ id)
    × (deed S (shows_number b id n) ≡ Showed S.round n b ∷ []) × (IsPublishable S id n → Allowed S (shows_number b id n))
shows_as false S n id = (refl, refl, refl, λ ok. ok)
shows_as true S n id = (refl, refl, refl, λ ok. ok)

module _ (may_stop : Bool) (S : State) (n id : ℕ) where
  published_here : Publishes S (publish S may_stop n) n
  published_here = let R : Round = record (now S) { jobs = n; stoppable = may_stop } in record {
    round = refl;
    published = refl;
    begun = λ q j. put_all (λ a y. times j y.begun ≡ times j (S.rounds a).begun) S.rounds S.round R refl (λ a z. refl) q;
    finished = λ q j. put_all (λ a y. times j y.finished ≡ times j (S.rounds a).finished) S.rounds S.round R refl (λ a z. refl) q;
  }

module _ {X N : Type 0} (D : Discipline X N) (law : Lawful D) (t slots id : ℕ) (me : SeatOf D t) (q n : ℕ) (may_stop : Bool) (some_range : 0 < t)
    (inside_q : me.0.standing ≡ Inside q) (alone : me.0.known.unpublished ≡ true)
    (full : IsFilled t n me.0.known.stored) (low : 2 ≤ n) (high : n ≤ most_jobs) (may : D.may_publish q n me.0.board) where
  -- the published word becomes the number
  owed : (run : List Event) (s : table.State X (View N)) → Before D law t slots id me published_at run s → Rule D t (shows_number may_stop id n ∷ run)
      (stepped s published_at (publish_word may_stop n) id me.1 (publishing may_stop n me.0) keeps)
  owed run s b = let r = b.rule in let at = b.at in let S : State = state run in let x : ℕ = publish_word may_stop n in let h = sound run r.is_run in
      let seat = r.seats id me.0 at in let shows = seat.0 in let st = subst (Stands S id) inside_q shows.stands in
      let only = (shows.inside q inside_q).unpublished alone in let hidden = only.1 in let w : View N = publishing may_stop n me.0 in let wide = r.words.wide in
      let zero_jobs = h.gate.hidden hidden (no_closer S h id st.0) in let e : Event = shows_number may_stop id n in let S' : State = publish S may_stop n in
      let R : Round = record (now S) { jobs = n; stoppable = may_stop } in let now_is : now S' ≡ R = put_here S.rounds S.round R in
      let it = shows_as may_stop S n id in let is : S' ≡ after S e = sym it.0 in
      let laid = r.lays me.0 (subst (λ (a : ℕ). get_elem? s.views a ≡ some me.0) only.0 at) in
      let stored : (j : ℕ) → j < 3 + t → get_or s.words (filled_at j) 0 ≡ fill_value t n j =
      (λ j lt. (laid.stored (filled_at j) (fill_value t n j) (full j lt)).1) in
      let other : (i : ℕ) → i ≢ published_at → get_or (set s.words published_at x) i 0 ≡ get_or s.words i 0 =
      (λ i ne. get_or-set_other s.words published_at i x 0 ne) in let all_open = none_begun h.fate (now S) S.parties h.work zero_jobs in
      let free : (k : ℕ) → k < n → Free S' k = (λ k lt. let f = open_is_free h.fate (now S) S.parties h.work k (all_open k) in
      (subst (λ (z : Round). k < z.jobs) (sym now_is) lt, ap (λ (z : Round). times k z.begun) now_is ∙ f.0, f.1)) in
      let at_rest : (now S).stopped ≡ false = untrue (now S).stopped (λ e. let a = (h.work.stops e).1 in omega arith) in
      let own : S.round ≡ round_of me.0.standing = st.1 ∙ sym (ap round_of inside_q) in
      moves_with D t run s r published_at x id me w keeps (e ∷ []) at (it.1, tt)
      (it.3 (only.0, st.0, hidden, low, high), r.is_run)
      (subst (λ (z : State). Words t z (set s.words published_at x)) is record {
        wide = length-set s.words published_at x ∙ r.words.wide;
        barrier = other barrier_at (λ e. omega arith) ∙ r.words.barrier;
        published = get_or-set_same s.words published_at x 0 (omega arith) ∙ sym (ap (λ (z : Round). number_of (Some n) z.stoppable) now_is);
        finished = λ _. other finished_at (λ e. omega arith) ∙ (stored zero (omega arith) ∙ sym
            (ap (λ (z : Round). length z.finished) now_is ∙ no_times (now S).finished (λ k. h.work.finished k ∙ ap over (all_open k))));
        stopped = λ _. ((λ e. let a = ap (λ (z : Round). z.stopped) now_is in absurd cc), (λ _. other stopped_at (λ e. omega arith) ∙ stored 1 (omega arith)));
        counters = λ m e. let same : n ≡ m = cc in subst (Counters t S' (set s.words published_at x)) same
            (filled_counters t n S' (set s.words published_at x) free (λ k f. subst (λ (z : Round). k < z.jobs) now_is f.0) high
            (other remainder_at (λ z. omega arith) ∙ stored 2 (omega arith))
            (λ i lt. let j : range_at i ≡ filled_at (suc (suc (suc i))) = omega arith in
            other (range_at i) (λ z. omega arith) ∙ (ap (λ (z : ℕ). get_or s.words z 0) j ∙ stored (suc (suc (suc i))) (omega arith))));
        barren = λ z. absurd (omega arith);
      })
      (subst (λ (z : State). Shows z id w) is (shows_by (subst (Stands S' id) (sym inside_q) (st.0, st.1)) shows.leads shows.claim shows.share (λ a e. knows_by
      (λ m e. let a : n ≡ m = cc in (ap (λ (z : ℕ). Some z) a, ap (λ (z : Round). z.stoppable) now_is)) (λ e. absurd cc)
      (ap (λ (z : Round). z.seen id) now_is ∙ untrue ((now S).seen id) (λ saw. let a = h.work.saw id saw in absurd cc)) (λ _ _ _ l. absurd l) (λ _. refl))))
      ((λ z. Showed (sym own z) n may_stop ∷ seat.1 z) ∙ sym (ap (λ (b : Bool). (if b then deed S e else []) ++ deeds id run)
      (eq-eqb (by e) id it.1) ∙ ap (λ (l : List Deed). l ++ deeds id run) it.2)) refl
      (λ v e. ⊎_elim (λ (z : (0 ≡ id) × (w ≡ v)). subst (λ (y : State × View N). Laid t y.0 (set s.words published_at x) y.1) (λ i. (is i, z.1 i)) record {
        stored = λ i y e. absurd cc;
        unstored = λ _. refl;
        current = λ _. ap (λ (a : ℕ). Some a) (sym own);
        left = λ _ _ e. absurd cc;
      }) (λ (z : (0 ≢ id) × (get_elem? s.views 0 ≡ some v)). absurd (z.0 (sym only.0))) (at_set s.views id 0 w v e))
      (subst (λ (z : State). D.clause z s.homes (set s.views id w)) is
      (law.publishes S S' s.homes s.views id me.0 w n r.slots (published_here may_stop S n id)
      (ap (λ (a : ℕ). get_elem? s.views a) (sym only.0) ∙ at) only.0 (refl, refl, refl) (subst (λ (a : ℕ). D.may_publish a n me.0.board) (sym st.1) may)))

module _ {X N : Type 0} (D : Discipline X N) (law : Lawful D) (t : ℕ) where
  pub publishes : (slots id : ℕ) (me : SeatOf D t) (q n : ℕ) → 0 < t → me.0.standing ≡ Inside q → me.0.known.unpublished ≡ true → IsFilled t n me.0.known.stored
      → 2 ≤ n → n ≤ most_jobs → D.may_publish q n me.0.board
      → Store D t slots id me published_at n (Publish id n ∷ []) PublishTells
  publishes slots id me q n some_range inside_q alone full low high may = stores D law t slots id me published_at n (Publish id n ∷ []) (publishing false)
      (step slots published_at n 0 none) (owed D law t slots id me q n false some_range inside_q alone full low high may)

  -- the same for a round that may stop
  pub publishes_try : (slots id : ℕ) (me : SeatOf D t) (q n : ℕ) → 0 < t → me.0.standing ≡ Inside q → me.0.known.unpublished ≡ true
      → IsFilled t n me.0.known.stored → 2 ≤ n → n ≤ most_jobs → D.may_publish q n me.0.board
      → Store D t slots id me published_at (n + high_half) (PublishTry id n ∷ []) PublishTryTells
  publishes_try slots id me q n some_range inside_q alone full low high may = stores D law t slots id me published_at (n + high_half) (PublishTry id n ∷ [])
      (λ x. publishing true (x % high_half)) (step slots published_at (n + high_half) 0 none)
      (λ run s b. let low_half : (n + high_half) % high_half ≡ n = omega arith in
      subst (λ (m : ℕ). Rule D t (PublishTry id n ∷ run) (stepped s published_at (n + high_half) id me.1 (publishing true m me.0) keeps)) (sym low_half)
      (owed D law t slots id me q n true some_range inside_q alone full low high may run s b))
