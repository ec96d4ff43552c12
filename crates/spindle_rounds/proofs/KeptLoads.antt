-- Loads that leave the state of the round, and what they teach.
use Rattle.std.proofs.Common.{◌≡◌, ◌≢◌, ◌⊎◌, inl, inr, ⊎_elim, ℕ, ◌+◌, ◌*◌, ◌/◌, ◌%◌, ◌<◌, ◌≤◌, Bool, true, false, lt-ltb, le-ltb, div-add-mod', zero-mul, List}
use Rattle.std.proofs.Common.{[], get_or, sym, refl, ap, ◌∙◌, subst, arith, Option, Some, None, if◌then◌else◌, ◌==◌, nat_lt}
use mathlib.Core.Logic.{dite}
use native.Mathlib.Nat.{div-lt_iff_lt-mul}
use mathlib.Core.Option.{none, some}
use native.Mathlib.Decide.{ℕ_discrete}
use lib.ListN.{get_elem?}
use Rattle.atomic_table.specs.Table as table
use Rattle.atomic_table.specs.Table.{step, keeps}
use Rattle.spindle_parts.specs.State.{State, In, now, party, Free, IsUsed}
use Rattle.spindle_parts.specs.Steps.{Event}
use Rattle.spindle_parts.specs.Runs.{state}
use Rattle.spindle_parts.proofs.Soundness.{Sound, sound, no_closer}
use Rattle.spindle_rounds.specs.declared.round_table.view.View.{View}
use Rattle.spindle_rounds.specs.RoundSlots.{Discipline, Lawful}
use Rattle.spindle_rounds.specs.RoundShown.{number_of, Stands, Knows, Shows, Counters, InRange, InRemainder, home_of, IsListed, IsEmptied}
use Rattle.spindle_rounds.specs.Words.{barrier_at, published_at, remainder_at, range_at, high_half, most_jobs}
use Rattle.spindle_rounds.specs.RoundSteps.{loading, learning, list_empty, reading, searching, reading_remainder}
use Rattle.spindle_rounds.specs.RoundTells.{LoadTells, LearnTells, SearchTells, RemainderReadTells, RecallTells}
use Rattle.spindle_rounds.specs.RoundRuns.{PlainLoad}
use Rattle.spindle_rounds.proofs.RoundMoves.{Rule, SeatOf, turns, reads, stays, noted_shows, untrue, shows_by, knows_by}
use Rattle.spindle_rounds.proofs.RoundNumbers.{true_or}
use Rattle.spindle_rounds.proofs.RoundWords.{by_less, by_equal, word_fields}

module _ (t : ℕ) where
  remainder_home : (ws : List ℕ) (n k : ℕ) → get_or ws remainder_at 0 ≤ n % t → InRemainder ws n k → home_of t n k ≡ t
  remainder_home ws n k few z = let z₀ = z.0 in by_less (k + n % t) n (λ b. (if b then k / (n / t) else t) ≡ t) (λ lt. absurd (omega arith)) (λ _. refl)

  -- an empty range shows that no number of it is free
  range_emptied : (S : State) (ws : List ℕ) (n i : ℕ) → i < t → Counters t S ws n → get_or ws (range_at i) 0 / high_half ≤ get_or ws (range_at i) 0 % high_half
      → IsEmptied t n S i
  range_emptied S ws n i low c empty = ⊎_elim inr (λ going. inl (λ k f is. ⊎_elim
      (λ (z : (j : ℕ) × (j < t) × InRange ws j k). let y = subst (λ (a : ℕ). InRange ws a k) (sym (c.home going z.0 k z.1 z.2) ∙ is) z.2 in let y₀ = y.0 in
      let y₁ = y.1 in omega arith)
      (λ (z : InRemainder ws n k). let h : t ≡ i = sym (remainder_home ws n k c.few z) ∙ is in omega arith) (c.free k f))) (true_or (now S).stopped)

  -- a remainder of 0 shows the same of the remainder
  remainder_emptied : (S : State) (ws : List ℕ) (n : ℕ) → Counters t S ws n → get_or ws remainder_at 0 ≡ 0 → IsEmptied t n S t
  remainder_emptied S ws n c empty = ⊎_elim inr (λ going. inl (λ k f is. ⊎_elim
      (λ (z : (j : ℕ) × (j < t) × InRange ws j k). let lt = z.1 in let h : z.0 ≡ t = sym (c.home going z.0 k z.1 z.2) ∙ is in omega arith)
      (λ (z : InRemainder ws n k). let z₀ = z.0 in let z₁ = z.1 in omega arith) (c.free k f))) (true_or (now S).stopped)

  home_le : (n k : ℕ) → home_of t n k ≤ t
  home_le n k = by_less (k + n % t) n (λ b. (if b then k / (n / t) else t) ≤ t) (λ lt. let d : ℕ = n / t in let e : d * t + n % t ≡ n = div-add-mod' n t in
      dite (ℕ_discrete d 0) (λ z. let y : d * t ≡ 0 = ap (λ (a : ℕ). a * t) z ∙ zero-mul t in absurd (omega arith)) (λ z. let y : k < t * d = omega arith in
      let a = (div-lt_iff_lt-mul {k = d} {x = k} {y = t} (omega arith)).1 y in omega arith))
      (λ _. omega arith)

  -- where each range and the remainder was read as empty, nothing is left
  pub used_up : (S : State) (n : ℕ) → ((i : ℕ) → i ≤ t → IsEmptied t n S i) → IsUsed S
  used_up S n all = ⊎_elim inr (λ going. inl (λ k f. let i : ℕ = home_of t n k in
      ⊎_elim (λ (z : (j : ℕ) → Free S j → home_of t n j ≡ i → ⊥). z k f refl) (λ st. absurd cc) (all i (home_le n k)))) (true_or (now S).stopped)

-- what a read as empty teaches
listed : (o : Option ℕ) (n i : ℕ) (b : Bool) (l : List ℕ) (P : ℕ → Type 0) → o ≡ Some n → (b ≡ true → P i) → ((j : ℕ) → IsListed j l → P j) → (j : ℕ)
    → IsListed j (list_empty o b i l) → P j
listed None n i b l P e here old j h = absurd cc
listed (Some m) n i true l P e here old j h = ⊎_elim (λ (z : i ≡ j). subst P z (here refl)) (old j) h
listed (Some m) n i false l P e here old j h = old j h

unlisted : (o : Option ℕ) (i : ℕ) (b : Bool) (l : List ℕ) → o ≡ None → l ≡ [] → list_empty o b i l ≡ []
unlisted None i b l e z = z
unlisted (Some n) i b l e z = absurd cc

-- the number in a published word
low_half : (b : Bool) (n : ℕ) → n ≤ most_jobs → number_of (Some n) b % high_half ≡ n
low_half true n few = omega arith
low_half false n few = omega arith

module _ {X N : Type 0} (D : Discipline X N) (law : Lawful D) (t : ℕ) where
  -- the barrier word is read
  pub loads : (slots id : ℕ) (me : SeatOf D t) → PlainLoad D t slots id me barrier_at LoadTells
  loads slots id me = reads D law t slots id me barrier_at (λ _. me.0.standing) (λ _. me.0.known) _ (λ _. refl) (λ run s b. let r = b.rule in
      let f = word_fields (state run) (sound run r.is_run) (get_or s.words barrier_at 0) r.words.barrier in
      (noted_shows (state run) id me.0 _ (r.seats id me.0 b.at).0, (refl, refl, f.small)))

  -- the published word is read
  pub learns : (slots id : ℕ) (me : SeatOf D t) → PlainLoad D t slots id me published_at LearnTells
  learns slots id me = turns D law t slots id me published_at (λ n. n) [] learning (step slots published_at 0 0 none) (λ run s b. let r = b.rule in
      let at = b.at in let x : ℕ = get_or s.words published_at 0 in let S : State = state run in let h = sound run r.is_run in
      let number : (n : ℕ) → (if x == 0 then None else Some (x % high_half)) ≡ Some n → (S.published ≡ Some n) × ((now S).stoppable ≡ nat_lt most_jobs x) =
      (λ n. by_equal x 0 (λ b. (if b then None else Some (x % high_half)) ≡ Some n → (S.published ≡ Some n) × ((now S).stoppable ≡ nat_lt most_jobs x))
      (λ _ z. absurd cc) (λ not_zero z. read S.published (now S).stoppable x n r.words.published not_zero (λ m y. let a = h.gate.shown m y in (a.1, a.2)) z)) in
      let shows = (r.seats id me.0 at).0 in stays D law t run s r published_at id me (learning x me.0) at (refl, refl, refl)
      (shows_by shows.stands shows.leads shows.claim shows.share (λ q e. let k = shows.inside q e in let st = subst (Stands S id) e shows.stands in knows_by
      number k.unpublished
      (by_less most_jobs x (λ b. (now S).seen id ≡ (if b then me.0.known.seen_stop else false)) (λ _. k.seen)
      (λ le. untrue ((now S).seen id) (λ saw. plain S h st.0 x r.words.published le saw)))
      (λ n i e' l. still_empty k n i (number n e').0 l)
      (by_equal x 0 (λ b. (if b then None else Some (x % high_half)) ≡ None → me.0.known.emptied ≡ [])
      (λ zero_read _. unread_yet k (hidden S.published (now S).stoppable x r.words.published zero_read (λ m y. (h.gate.shown m y).1))) (λ _ z. absurd cc))))
      refl refl (inr refl) refl)
    where
      read : (o : Option ℕ) (b : Bool) (x n : ℕ) → x ≡ number_of o b → x ≢ 0 → ((m : ℕ) → o ≡ Some m → (2 ≤ m) × (m ≤ most_jobs)) → Some
          (x % high_half) ≡ Some n → (o ≡ Some n) × (b ≡ nat_lt most_jobs x)
      read None b x n is not_zero bounds e = absurd (not_zero is)
      read (Some m) true x n is not_zero bounds e = let c = bounds m refl in let c₀ = c.0 in let c₁ = c.1 in let d : x % high_half ≡ n = cc in
          let f : m ≡ n = omega arith in (ap (λ (z : ℕ). Some z) f, sym (lt-ltb most_jobs x (omega arith)))
      read (Some m) false x n is not_zero bounds e = let c = bounds m refl in let c₀ = c.0 in let c₁ = c.1 in let d : x % high_half ≡ n = cc in
          let f : m ≡ n = omega arith in (ap (λ (z : ℕ). Some z) f, sym (le-ltb most_jobs x (omega arith)))

      hidden : (o : Option ℕ) (b : Bool) (x : ℕ) → x ≡ number_of o b → x ≡ 0 → ((m : ℕ) → o ≡ Some m → 2 ≤ m) → o ≡ None
      hidden None b x is z bounds = refl
      hidden (Some m) true x is z bounds = absurd (omega arith)
      hidden (Some m) false x is z bounds = let c = bounds m refl in absurd (omega arith)

      -- a plain number, or none, is of a round that doesn't stop
      plain : (S : State) → Sound S → (party S id).status ≡ In → (x : ℕ) → x ≡ number_of S.published (now S).stoppable → x ≤ most_jobs → (now S).seen id ≡ true
          → ⊥
      plain S h at_in x is le saw = let st = h.work.stops (h.work.saw id saw) in let some = st.1 in
          go S.published (now S).stoppable st.0 is (λ e. let z = h.gate.hidden e (no_closer S h id at_in) in omega arith)
        where
          go : (o : Option ℕ) (b : Bool) → b ≡ true → x ≡ number_of o b → (o ≡ None → ⊥) → ⊥
          go None b e is n = n refl
          go (Some m) true e is n = omega arith
          go (Some m) false e is n = cc

      number_or_none : (o : Option ℕ) → ((m : ℕ) × (o ≡ Some m)) ⊎ (o ≡ None)
      number_or_none None = inr refl
      number_or_none (Some m) = inl (m, refl)

      still_empty : {S : State} → Knows me.0.threads S id me.0.known → (n i : ℕ) → S.published ≡ Some n → IsListed i me.0.known.emptied
          → IsEmptied me.0.threads n S i
      still_empty {S = S} k n i shown l = ⊎_elim (λ (z : (m : ℕ) × (me.0.known.number ≡ Some m)). let same : Some z.0 ≡ Some n = sym (k.number z.0 z.1).0
          ∙ shown in let e : z.0 ≡ n = cc in subst (λ (a : ℕ). IsEmptied me.0.threads a S i) e (k.emptied z.0 i z.1 l))
          (λ (z : me.0.known.number ≡ None). absurd (subst (IsListed i) (k.unread z) l)) (number_or_none me.0.known.number)

      unread_yet : {S : State} → Knows me.0.threads S id me.0.known → S.published ≡ None → me.0.known.emptied ≡ []
      unread_yet k none_shown = ⊎_elim (λ (z : (m : ℕ) × (me.0.known.number ≡ Some m)). let a = (k.number z.0 z.1).0 in
          absurd cc) k.unread (number_or_none me.0.known.number)

  -- what a seat knows once a range or the remainder is read
  reading_shows : (id : ℕ) (me : SeatOf D t) (word i : ℕ) (empty : Bool) (run : List Event) (s : table.State X (View N)) (r : Rule D t run s)
      → get_elem? s.views id ≡ some me.0 → ((n : ℕ) → (state run).published ≡ Some n → empty ≡ true → IsEmptied t n (state run) i)
      → Shows (state run) id (reading word i empty (get_or s.words word 0) me.0)
  reading_shows id me word i empty run s r at teaches = let S : State = state run in let seat = r.seats id me.0 at in let shows = seat.0 in
      shows_by shows.stands shows.leads shows.claim shows.share (λ q e. let k = shows.inside q e in knows_by k.number k.unpublished k.seen
      (λ n j e' l. listed me.0.known.number n i empty me.0.known.emptied (IsEmptied me.0.threads n S) e'
      (λ z. subst (λ (a : ℕ). IsEmptied a n S i) (sym seat.2) (teaches n (k.number n e').0 z)) (λ j' l'. k.emptied n j' e' l') j l)
      (λ z. unlisted me.0.known.number i empty me.0.known.emptied z (k.unread z)))

  -- once a range is read
  pub search_shows : (id : ℕ) (me : SeatOf D t) (i : ℕ) → i < t → (run : List Event) (s : table.State X (View N)) → Rule D t run s
      → get_elem? s.views id ≡ some me.0 → Shows (state run) id (searching i (get_or s.words (range_at i) 0) me.0)
  search_shows id me i low run s r at = let x : ℕ = get_or s.words (range_at i) 0 in
      let empty : Bool = if nat_lt (x % high_half) (x / high_half) then false else true in let c = r.words.counters in
      reading_shows id me (range_at i) i empty run s r at (λ n shown e. range_emptied t (state run) s.words n i low (c n shown)
      (by_less (x % high_half) (x / high_half) (λ b. (if b then false else true) ≡ true → x / high_half ≤ x % high_half) (λ _ z. absurd cc) (λ le _. le) e))

  -- once the remainder is read
  pub remainder_shows : (id : ℕ) (me : SeatOf D t) (run : List Event) (s : table.State X (View N)) → Rule D t run s → get_elem? s.views id ≡ some me.0
      → Shows (state run) id (reading_remainder (get_or s.words remainder_at 0) me.0)
  remainder_shows id me run s r at = let x : ℕ = get_or s.words remainder_at 0 in let seat = r.seats id me.0 at in
      reading_shows id me remainder_at me.0.threads (x == 0) run s r at
      (λ n shown e. subst (λ (a : ℕ). IsEmptied t n (state run) a) (sym seat.2)
      (remainder_emptied t (state run) s.words n (r.words.counters n shown) (by_equal x 0 (λ b. b ≡ true → x ≡ 0) (λ z _. z) (λ _ z. absurd cc) e)))

  -- a range is read
  pub searches : (slots id : ℕ) (me : SeatOf D t) (i : ℕ) → i < t → PlainLoad D t slots id me (range_at i) SearchTells
  searches slots id me i low = reads D law t slots id me (range_at i) (λ _. me.0.standing) (λ x. (searching i x me.0).known) _ (λ _. refl) (λ run s b. (
    search_shows id me i low run s b.rule b.at,
    (refl, λ j same. let ij : i ≡ j = omega arith in ap (λ (z : ℕ). searching z (get_or s.words (range_at i) 0) me.0) ij),
  ))

  -- the remainder is read, which is no more than the number
  pub remainder_reads : (slots id : ℕ) (me : SeatOf D t) → PlainLoad D t slots id me remainder_at RemainderReadTells
  remainder_reads slots id me = reads D law t slots id me remainder_at (λ _. me.0.standing) (λ x. (reading_remainder x me.0).known) _ (λ _. refl)
      (λ run s b. let r = b.rule in (
        remainder_shows id me run s r b.at,
        (
          refl,
          refl,
          λ q n inside_q known. let c = r.words.counters n (((r.seats id me.0 b.at).0.inside q inside_q).number n known).0 in let few = c.few in
              let e = div-add-mod' n t in omega arith,
        ),
      ))

  -- the published word is read by a member that knows the number
  pub recalls : (slots id : ℕ) (me : SeatOf D t) → PlainLoad D t slots id me published_at RecallTells
  recalls slots id me = reads D law t slots id me published_at (λ _. me.0.standing) (λ _. me.0.known) _ (λ _. refl) (λ run s b. let r = b.rule in
      let seat = r.seats id me.0 b.at in (
        noted_shows (state run) id me.0 _ seat.0,
        (
          refl,
          λ q n inside_q known. let k = (seat.0.inside q inside_q).number n known in
              let is : get_or s.words published_at 0 ≡ number_of (Some n) me.0.known.may_stop = r.words.published ∙ (λ i. number_of (k.0 i) (k.1 i)) in
              let few = ((sound run r.is_run).gate.shown n k.0).2 in let low = low_half me.0.known.may_stop n few in
              (ap (λ (z : ℕ). loading published_at z me.0) is, ap (λ (z : ℕ). z % high_half) is ∙ low),
        ),
      ))
