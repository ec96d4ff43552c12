-- What the leader knows of what a round has left, and what it marks.
use Rattle.std.proofs.Common.{◌≡◌, ◌≢◌, ◌⊎◌, ◌↔◌, inl, inr, ⊎_elim, ℕ, zero, suc, ◌+◌, ◌<◌, ◌≤◌, Bool, true, false, List, [], ◌∷◌, length, get_or, slice_set}
use Rattle.std.proofs.Common.{get_or-set_same, get_or-set_other, sym, refl, ap, ◌∙◌, subst, arith, Option, None, Some, if◌then◌else◌, ◌==◌, eq-eqb, ne_eqb}
use mathlib.Core.Logic.{dite}
use native.Mathlib.Decide.{ℕ_discrete}
use Rattle.spindle_parts.specs.State.{State, party, times}
use Rattle.spindle_parts.specs.Steps.{Event, Allowed}
use Rattle.spindle_parts.specs.Runs.{state, IsRun}
use Rattle.spindle_parts.proofs.Fates.{started}
use Rattle.spindle_parts.proofs.Soundness.{Sound, sound}
use Rattle.spindle_rounds.specs.declared.round_table.view.View.{View}
use Rattle.spindle_rounds.specs.declared.round_table.view.Kind.{Kind}
use Rattle.spindle_rounds.specs.declared.round_table.view.Kind.TheVariants as kind
use Rattle.spindle_parts.specs.declared.trail.Trace.{Trace}
use Rattle.spindle_parts.specs.Trail.{trace}
use Rattle.spindle_rounds.specs.RoundSteps.{searching, reading_remainder}
use Rattle.spindle_rounds.specs.RoundSlots.{Discipline}
use Rattle.spindle_rounds.specs.RoundRule.{stored_at}
use Rattle.spindle_rounds.specs.RoundShown.{Deed, Showed, Stopped, ended_in, stopped_by, deed, deeds, deeds_of, IsLeft, InRange, InRemainder, IsWithin}
use Rattle.spindle_rounds.specs.Words.{remainder_at, range_at, start_of, end_of}
use Rattle.spindle_rounds.specs.RoundConditions.{MayFill}
use Rattle.spindle_rounds.specs.RoundViews.{stopped_of, stops_of}
use Rattle.spindle_rounds.specs.SlotSteps.{IsDeed}
use Rattle.spindle_rounds.specs.Leftovers.{is_between, finding, AreKnown, IsInRanges, IsInRest, IsLeftBy, AreUnbegun, HasMoment, IsMarked, last_left}
use Rattle.spindle_rounds.proofs.RoundTrails.{by_deed, begun_adds, trails_begun}
use Rattle.spindle_rounds.proofs.PlainRounds.{newest_deed, was_shown}

some_same : (a b : ℕ) → Some a ≡ Some b → a ≡ b
some_same a b e = cc

-- what the leader knows of the words says what the words say
module _ (t n : ℕ) (ws : List ℕ) (known : ℕ → Option ℕ) (true_of : (i x : ℕ) → known i ≡ Some x → get_or ws i 0 ≡ x) where
  left_by : (k : ℕ) → IsLeftBy known t n k → IsLeft t ws n k
  left_by k z = ⊎_elim (λ (a : IsInRanges known t k). inl (a.0, a.2, subst (λ (x : ℕ). IsWithin x k) (sym (true_of (range_at a.0) a.1 a.3)) a.4))
      (λ (a : IsInRest known n k). let e = true_of remainder_at a.0 a.1 in let le = a.2 in let lt = z.0 in inr (omega arith, lt)) z.1

  by_left : AreKnown known t → (k : ℕ) → k < n → IsLeft t ws n k → IsLeftBy known t n k
  by_left all k lt z = (
    lt,
    ⊎_elim (λ (a : (i : ℕ) × (i < t) × InRange ws i k). let w = all.0 a.0 a.1 in
        inl (a.0, w.0, a.1, w.1, subst (λ (x : ℕ). IsWithin x k) (true_of (range_at a.0) w.0 w.1) a.2))
        (λ (a : InRemainder ws n k). let w = all.1 in let e = true_of remainder_at w.0 w.1 in let le = a.0 in inr (w.0, w.1, omega arith)) z,
  )

-- at every moment they stand for what hasn't begun
pub every_leftover : {S N : Type 0} (D : Discipline S N) (v : View N) (q n : ℕ) (may_stop : Bool) → MayFill v → v.laid ≡ Some q
    → IsDeed (Showed q n may_stop) (deeds_of v.trail) → AreKnown (stored_at v.known.stored) v.threads
    → AreUnbegun D q n v (IsLeftBy (stored_at v.known.stored) v.threads n)
every_leftover {S = X} {N = N} D v q n may_stop may laid shown known t s rule at k =
    let r = rule.by_run in let run = rule.run in let S : State = state run in let seat = r.seats 0 v at in let l = r.lays v at in
    let hid = ((seat.0.inside may.0.0 may.0.1).unpublished may.1).1 in
    let was = was_shown may_stop 0 run r.is_run q n (subst (IsDeed (Showed q n may_stop)) seat.1 shown) in let stands = l.left q laid hid k in
    let told = trails_begun k q run r.is_run s.views (λ p u here. (r.seats p u here).1) (λ p le. (r.beyond p le).2) in
    let words : ℕ → Option ℕ = stored_at v.known.stored in let holds : (i x : ℕ) → words i ≡ Some x → get_or s.words i 0 ≡ x = (λ i x e. (l.stored i x e).1) in
    let same : (S.rounds q).jobs ≡ n = was.jobs in let sized : v.threads ≡ t = seat.2 in (
      (λ z. let below = z.0 in let a = left_by t n s.words words holds k (subst (λ (a : ℕ). IsLeftBy words a n k) sized z) in
          let b = stands.1 (subst (λ (a : ℕ). IsLeft t s.words a k) (sym same) a) in (below, told ∙ b.1)),
      (λ z. let below = z.0 in let none_begun = z.1 in let a = stands.0 (subst (λ (b : ℕ). k < b) (sym same) below, sym told ∙ none_begun) in
          subst (λ (a : ℕ). IsLeftBy words a n k) (sym sized)
          (by_left t n s.words words holds (subst (AreKnown words) sized known) k below (subst (λ (a : ℕ). IsLeft t s.words a k) same a))),
    )

-- a stop among the stops is among the deeds
stopped_deed : (d : Deed) (ds : List Deed) → IsDeed d (stopped_of ds) → IsDeed d ds
stopped_deed d [] e = e
stopped_deed d (Stopped q k ∷ ds) e = ⊎_elim inl (λ z. inr (stopped_deed d ds z)) e
stopped_deed d (_ ∷ ds) e = inr (stopped_deed d ds e)

-- the number of a party that stops a round has begun in it
stopped_began : (q k p : ℕ) (es : List Event) → IsRun es → IsDeed (Stopped q k) (deeds p es) → 0 < times k ((state es).rounds q).begun
stopped_began q k p [] ok d = absurd d
stopped_began q k p (e ∷ es) ok d = let s : State = state es in let h = sound es ok.1 in let adds = begun_adds k q s h e ok.0 in
    let before : 0 < times k (s.rounds q).begun = ⊎_elim (λ own. new s h e ok.0 own) (λ old. stopped_began q k p es ok.1 old)
    (newest_deed (Stopped q k) p e es d) in omega arith
  where
    runs_one : (s : State) → Sound s → (a j : ℕ) → (party s a).running ≡ Some j → (o : Option ℕ) → o ≡ Some j → IsDeed (Stopped q k) (stopped_by s.round o)
        → 0 < times k (s.rounds q).begun
    runs_one s h a j runs None is own = absurd own
    runs_one s h a j runs (Some i) is own = let one : Stopped s.round i ≡ Stopped q k = ⊎_elim (λ z. z) (λ z. absurd z) own in let here : s.round ≡ q = cc in
        let same : j ≡ k = cc in let begun = h.work.begun j ∙ ap started ((h.work.fits a).ran j runs) in
        subst (λ (z : ℕ × ℕ). 0 < times z.0 (s.rounds z.1).begun) (λ x. (same x, here x)) (omega arith)

    new : (s : State) → Sound s → (e : Event) → Allowed s e → IsDeed (Stopped q k) (deed s e) → 0 < times k (s.rounds q).begun
    new s h = by_deed s (λ e. Allowed s e → IsDeed (Stopped q k) (deed s e) → 0 < times k (s.rounds q).begun)
        (λ e _ none ok own. absurd (subst (IsDeed (Stopped q k)) none own))
        (λ a n ok own. absurd (other (λ z. cc) own)) (λ a n ok own. absurd (other (λ z. cc) own)) (λ a j ok own. absurd (other (λ z. cc) own))
        (λ a ok own. absurd (no_end (party s a).running own))
        (λ a ok own. runs_one s h a ok.0.0 ok.0.1 (party s a).running ok.0.1 own)
      where
        other : {x : Deed} → (x ≡ Stopped q k → ⊥) → IsDeed (Stopped q k) (x ∷ []) → ⊥
        other ne own = ⊎_elim ne (λ z. z) own

        no_end : (o : Option ℕ) → IsDeed (Stopped q k) (ended_in s.round o) → ⊥
        no_end None z = z
        no_end (Some j) z = other (λ y. cc) z

-- so it isn't among those that nobody has begun, as a moment shows
pub stopped_begun : {S N : Type 0} (D : Discipline S N) (v : View N) (q n k : ℕ) (P : ℕ → Type 0) → HasMoment D v → AreUnbegun D q n v P
    → IsDeed (Stopped q k) (stops_of v.trail) → P k → ⊥
stopped_begun D v q n k P moment unbegun stopped left = let s = moment.1 in let rule = moment.2 in let r = rule.by_run in
    let none = ((unbegun moment.0 s rule moment.3 k).0 left).1 in
    let told = trails_begun k q rule.run r.is_run s.views (λ p u here. (r.seats p u here).1) (λ p le. (r.beyond p le).2) in
    let own = subst (IsDeed (Stopped q k)) (r.seats 0 v moment.3).1 (stopped_deed (Stopped q k) (deeds_of v.trail) stopped) in
    let some = stopped_began q k 0 rule.run r.is_run own in omega arith

-- Marks.

-- one number more is marked
pub marked_more : (xs : List Bool) (n k : ℕ) → n < length xs → IsMarked (slice_set xs n true) k ↔ (IsMarked xs k ⊎ (k ≡ n))
marked_more xs n k lt = dite (ℕ_discrete k n)
    (λ e. ((λ _. inr e), λ _. subst (λ (a : ℕ). get_or (slice_set xs n true) a false ≡ true) (sym e) (get_or-set_same xs n true false lt)))
    (λ ne. let other = get_or-set_other xs n k true false ne in ((λ m. inl (sym other ∙ m)), λ m. ⊎_elim (λ z. other ∙ z) (λ e. absurd (ne e)) m))

-- a number that is marked has a mark
pub marked_within : (xs : List Bool) (k : ℕ) → IsMarked xs k → k < length xs
marked_within [] k m = absurd cc
marked_within (x ∷ xs) zero m = omega arith
marked_within (x ∷ xs) (suc k) m = let a = marked_within xs k m in omega arith

-- the words that are known once one more is
abbrev pub with_word : ℕ → ℕ → (ℕ → Option ℕ) → ℕ → Option ℕ
with_word i x f k = if i == k then Some x else f k

word_here : (i x : ℕ) (f : ℕ → Option ℕ) → with_word i x f i ≡ Some x
word_here i x f = ap (λ (b : Bool). if b then Some x else f i) (eq-eqb i i refl)

word_else : (i x : ℕ) (f : ℕ → Option ℕ) (k : ℕ) → k ≢ i → with_word i x f k ≡ f k
word_else i x f k n = ap (λ (b : Bool). if b then Some x else f k) (ne_eqb i k (λ e. n (sym e)))

-- the first i ranges are known, and told by the trail, and the numbers that stand in them are marked
pub record Found (i : ℕ) (known told : ℕ → Option ℕ) (marks : List Bool) : Type 0 where
  pub range : (j : ℕ) → j < i → (x : ℕ) × (known (range_at j) ≡ Some x)
  pub agrees : (j : ℕ) → j < i → told (range_at j) ≡ known (range_at j)
  pub marked : (k : ℕ) → IsMarked marks k ↔ ((k < length marks) × IsInRanges known i k)

pub found_none : (known told : ℕ → Option ℕ) (marks : List Bool) → ((k : ℕ) → IsMarked marks k → ⊥) → Found 0 known told marks
found_none known told marks none_yet = record {
  range = λ j lt. absurd (omega arith);
  agrees = λ j lt. absurd (omega arith);
  marked = λ k. ((λ m. absurd (none_yet k m)), λ z. let lt = z.1.2 in absurd (omega arith));
}

module _ (i x : ℕ) (known told : ℕ → Option ℕ) (marks marks' : List Bool) (f : Found i known told marks) (same : length marks' ≡ length marks)
    (more : (k : ℕ) → IsMarked marks' k ↔ (IsMarked marks k ⊎ ((start_of x ≤ k) × (k < end_of x) × (k < length marks)))) where
  abbrev pub known' : ℕ → Option ℕ
  known' = with_word (range_at i) x known

  abbrev pub told' : ℕ → Option ℕ
  told' = with_word (range_at i) x told

  pub found_next : Found (i + 1) known' told' marks'
  found_next = record {
    range = λ j lt. dite (ℕ_discrete j i) (λ e. (x, subst (λ (a : ℕ). known' (range_at a) ≡ Some x) (sym e) (word_here (range_at i) x known)))
        (λ ne. let w = f.range j (omega arith) in (w.0, word_else (range_at i) x known (range_at j) (λ e. ne (omega arith)) ∙ w.1));
    agrees = λ j lt. dite (ℕ_discrete j i)
        (λ e. subst (λ (a : ℕ). told' (range_at a) ≡ known' (range_at a)) (sym e) (word_here (range_at i) x told ∙ sym (word_here (range_at i) x known)))
        (λ ne. let apart : range_at j ≢ range_at i = (λ e. ne (omega arith)) in
        word_else (range_at i) x told (range_at j) apart ∙ (f.agrees j (omega arith) ∙ sym (word_else (range_at i) x known (range_at j) apart)));
    marked = λ k. (
      (λ m. ⊎_elim
          (λ old. let z = (f.marked k).0 old in let lt = z.0 in let r = z.1 in let low = r.2 in let apart : range_at r.0 ≢ range_at i = (λ e. omega arith) in
          (omega arith, (r.0, r.1, omega arith, word_else (range_at i) x known (range_at r.0) apart ∙ r.3, r.4)))
          (λ (new : (start_of x ≤ k) × (k < end_of x) × (k < length marks)). let lt = new.2 in
          (omega arith, (i, x, omega arith, word_here (range_at i) x known, (new.0, new.1))))
          ((more k).0 m)),
      λ z. let lt = z.0 in let r = z.1 in (more k).1 (dite (ℕ_discrete r.0 i)
          (λ e. let here : Some r.1 ≡ Some x = sym r.3 ∙ subst (λ (a : ℕ). known' (range_at a) ≡ Some x) (sym e) (word_here (range_at i) x known) in
          let v = subst (λ (a : ℕ). IsWithin a k) (some_same r.1 x here) r.4 in inr (v.0, v.1, omega arith))
          (λ ne. let low = r.2 in let apart : range_at r.0 ≢ range_at i = (λ e. ne (omega arith)) in
          inl ((f.marked k).1 (omega arith, (r.0, r.1, omega arith, sym (word_else (range_at i) x known (range_at r.0) apart) ∙ r.3, r.4))))),
    );
  }

-- once the remainder is known too, what is marked is what is left
module _ (t x : ℕ) (known told : ℕ → Option ℕ) (marks marks' : List Bool) (f : Found t known told marks)
    (more : (k : ℕ) → IsMarked marks' k ↔ (IsMarked marks k ⊎ ((length marks ≤ k + x) × (k < length marks)))) where
  abbrev pub all_known : ℕ → Option ℕ
  all_known = with_word remainder_at x known

  abbrev pub all_told : ℕ → Option ℕ
  all_told = with_word remainder_at x told

  pub known_all : AreKnown all_known t
  known_all = (
    (λ i lt. let w = f.range i lt in (w.0, word_else remainder_at x known (range_at i) (λ e. omega arith) ∙ w.1)),
    (x, word_here remainder_at x known),
  )

  pub marked_known : (k : ℕ) → IsMarked marks' k ↔ IsLeftBy all_known t (length marks) k
  marked_known k = (
    (λ m. ⊎_elim (λ old. let z = (f.marked k).0 old in let r = z.1 in
        (z.0, inl (r.0, r.1, r.2, word_else remainder_at x known (range_at r.0) (λ e. omega arith) ∙ r.3, r.4)))
        (λ (new : (length marks ≤ k + x) × (k < length marks)). (new.1, inr (x, word_here remainder_at x known, new.0))) ((more k).0 m)),
    λ z. (more k).1 (⊎_elim (λ (r : IsInRanges all_known t k).
        inl ((f.marked k).1 (z.0, (r.0, r.1, r.2, sym (word_else remainder_at x known (range_at r.0) (λ e. omega arith)) ∙ r.3, r.4))))
        (λ (r : IsInRest all_known (length marks) k). let same = some_same r.0 x (sym r.1 ∙ word_here remainder_at x known) in let le = r.2 in
        inr (omega arith, z.0)) z.1),
  )

  -- which the trail tells
  pub marked_told : (k : ℕ) → IsMarked marks' k ↔ IsLeftBy all_told t (length marks) k
  marked_told k = (
    (λ m. agree all_known all_told (λ j lt. same j lt) here k ((marked_known k).0 m)),
    λ z. (marked_known k).1 (agree all_told all_known (λ j lt. sym (same j lt)) (sym here) k z),
  )
    where
      here : all_told remainder_at ≡ all_known remainder_at
      here = word_here remainder_at x told ∙ sym (word_here remainder_at x known)

      same : (j : ℕ) → j < t → all_told (range_at j) ≡ all_known (range_at j)
      same j lt = word_else remainder_at x told (range_at j) (λ e. omega arith) ∙ (f.agrees j lt ∙ sym
          (word_else remainder_at x known (range_at j) (λ e. omega arith)))

      agree : (g h : ℕ → Option ℕ) → ((j : ℕ) → j < t → h (range_at j) ≡ g (range_at j)) → h remainder_at ≡ g remainder_at → (k : ℕ)
          → IsLeftBy g t (length marks) k → IsLeftBy h t (length marks) k
      agree g h ranges rest k z = (
        z.0,
        ⊎_elim (λ (r : IsInRanges g t k). inl (r.0, r.1, r.2, ranges r.0 r.2 ∙ r.3, r.4)) (λ (r : IsInRest g (length marks) k). inr (r.0, rest ∙ r.1, r.2)) z.1,
      )

-- between rounds the leader knows the word that it has read
pub finding_known : {N : Type 0} (i x : ℕ) (v : View N) → MayFill v → (finding i x v).known.stored ≡ (i, x) ∷ v.known.stored
finding_known i x v may = let b : is_between v.standing v.known.unpublished ≡ true = (λ j. is_between (may.0.1 j) (may.1 j)) in
    ap (λ (c : Bool). if c then (i, x) ∷ v.known.stored else v.known.stored) b

-- The leader's reads.

module _ {N : Type 0} (v w : View N) (marks marks' : List Bool) (may : MayFill v) where
  -- one range more was read
  pub range_found : (i x : ℕ) → w ≡ finding (range_at i) x (searching i x v) → Found i (stored_at v.known.stored) (last_left v.trail) marks
      → length marks' ≡ length marks → ((k : ℕ) → IsMarked marks' k ↔ (IsMarked marks k ⊎ ((start_of x ≤ k) × (k < end_of x) × (k < length marks))))
      → Found (i + 1) (stored_at w.known.stored) (last_left w.trail) marks'
  range_found i x is f same more =
      let stored : w.known.stored ≡ (range_at i, x) ∷ v.known.stored = ap (λ z. z.known.stored) is ∙ finding_known (range_at i) x (searching i x v) may in
      let trail : w.trail ≡ trace (range_at i) kind.Load x x ∷ v.trail = ap (λ z. z.trail) is in
      subst (λ (z : List (ℕ × ℕ) × List (Trace Kind)). Found (i + 1) (stored_at z.0) (last_left z.1) marks') (λ j. (sym stored j, sym trail j))
      (found_next i x (stored_at v.known.stored) (last_left v.trail) marks marks' f same more)

  -- and at last the remainder
  pub rest_found : (t x : ℕ) → w ≡ finding remainder_at x (reading_remainder x v) → Found t (stored_at v.known.stored) (last_left v.trail) marks
      → ((k : ℕ) → IsMarked marks' k ↔ (IsMarked marks k ⊎ ((length marks ≤ k + x) × (k < length marks))))
      → AreKnown (stored_at w.known.stored) t × ((k : ℕ) → IsMarked marks' k ↔ IsLeftBy (stored_at w.known.stored) t (length marks) k)
      × ((k : ℕ) → IsMarked marks' k ↔ IsLeftBy (last_left w.trail) t (length marks) k)
  rest_found t x is f more = let stored : w.known.stored ≡ (remainder_at, x) ∷ v.known.stored =
      ap (λ z. z.known.stored) is ∙ finding_known remainder_at x (reading_remainder x v) may in
      let trail : w.trail ≡ trace remainder_at kind.Load x x ∷ v.trail = ap (λ z. z.trail) is in let known : ℕ → Option ℕ = stored_at v.known.stored in
      let told : ℕ → Option ℕ = last_left v.trail in (
        subst (λ (z : List (ℕ × ℕ)). AreKnown (stored_at z) t) (sym stored) (known_all t x known told marks marks' f more),
        subst (λ (z : List (ℕ × ℕ)). (k : ℕ) → IsMarked marks' k ↔ IsLeftBy (stored_at z) t (length marks) k) (sym stored)
            (marked_known t x known told marks marks' f more),
        subst (λ (z : List (Trace Kind)). (k : ℕ) → IsMarked marks' k ↔ IsLeftBy (last_left z) t (length marks) k) (sym trail)
            (marked_told t x known told marks marks' f more),
      )
