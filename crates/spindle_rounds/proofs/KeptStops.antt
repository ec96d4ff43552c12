-- A round is stopped, a member sees it, and puts its share back.
use Rattle.std.proofs.Common.{◌≡◌, ◌≢◌, ◌⊎◌, inl, inr, ⊎_elim, ℕ, ◌<◌, ◌≤◌, Bool, true, false, eq-eqb, List, [], ◌∷◌, length, get_or, set}
use Rattle.std.proofs.Common.{get_or-set_same, get_or-set_other, sym, refl, ap, ◌∙◌, subst, arith, Option, None, Some, if◌then◌else◌, ◌==◌, ◌++◌}
use mathlib.Core.Logic.{dite}
use mathlib.Core.Option.{none}
use native.Mathlib.Decide.{ℕ_discrete}
use Rattle.atomic_table.specs.Table.{step, keeps, stepped}
use Rattle.spindle_parts.specs.State.{State, Party, Round, put, no_set, now, party, Free, times}
use Rattle.spindle_parts.specs.Steps.{Stop, See, PutBack, after}
use Rattle.spindle_parts.specs.Runs.{state}
use Rattle.spindle_parts.proofs.Fates.{Held, started}
use Rattle.spindle_parts.proofs.Parties.{put_here, look_here, look_else}
use Rattle.spindle_parts.proofs.Soundness.{Sound, sound}
use Rattle.spindle_parts.specs.declared.trail.Trace.{Trace}
use Rattle.spindle_rounds.specs.declared.round_table.view.Kind.{Kind}
use Rattle.spindle_rounds.specs.declared.round_table.view.Standing.TheVariants.{Inside}
use Rattle.spindle_rounds.specs.declared.round_table.view.View.{View}
use Rattle.spindle_rounds.specs.RoundSlots.{Discipline, Lawful}
use Rattle.spindle_rounds.specs.RoundShown.{Stopped, stopped_by, deeds, Stands, Shows, IsShare, Words, Counters, InRange, InRemainder, IsWithin}
use Rattle.spindle_rounds.specs.Words.{finished_at, stopped_at, remainder_at, range_at, start_of, end_of}
use Rattle.spindle_rounds.specs.RoundSteps.{stopping, seeing, putting_back, round_of, number_or}
use Rattle.spindle_rounds.specs.RoundTells.{StopTells, SeeTells, PutBackTells}
use Rattle.spindle_rounds.specs.RoundConditions.{MayStop, MaySee, MayPutBack}
use Rattle.spindle_rounds.specs.RoundRuns.{Load, Store, Exchange}
use Rattle.spindle_rounds.proofs.RoundMoves.{Rule, SeatOf, stores, exchanges, moves, stays, untrue, shows_by, knows_by}
use Rattle.spindle_rounds.proofs.RoundNumbers.{true_or}
use Rattle.spindle_rounds.proofs.RoundWords.{range_here, range_else, word_stays, counters_stay}
use Rattle.spindle_rounds.proofs.RoundChanges.{changed_words, later_words, some_published}
use Rattle.spindle_rounds.proofs.KeptBarrier.{no_deed}

-- The round's record changes in what is stopped and who has seen it.
module _ (S : State) (stop : Bool) (seen : ℕ → Bool) where
  abbrev pub marked : Round
  marked = record (now S) { stopped = stop; seen = seen }

  abbrev pub remarked : State
  remarked = record { round = S.round; parties = S.parties; closer = S.closer; published = S.published; rounds = put S.rounds S.round marked }

  pub its_round : now remarked ≡ marked
  its_round = put_here S.rounds S.round marked

  free_on : (j : ℕ) → Free S j → Free remarked j
  free_on j f = (subst (λ (z : Round). j < z.jobs) (sym its_round) f.0, ap (λ (z : Round). times j z.begun) its_round ∙ f.1, f.2)

  free_back : (j : ℕ) → Free remarked j → Free S j
  free_back j f = (subst (λ (z : Round). j < z.jobs) its_round f.0, sym (ap (λ (z : Round). times j z.begun) its_round) ∙ f.1, f.2)

  -- where the word says whether it is stopped
  pub words_after : (t : ℕ) (ws : List ℕ) (x : ℕ) → Words t S ws → (stop ≡ true → x ≡ 1) → (stop ≡ false → x ≡ 0) → (stop ≡ false → (now S).stopped ≡ false)
      → Words t remarked (set ws stopped_at x)
  words_after t ws x w on off was = let wide = w.wide in let other : (j : ℕ) → j ≢ stopped_at → get_or (set ws stopped_at x) j 0 ≡ get_or ws j 0 =
      (λ j n. get_or-set_other ws stopped_at j x 0 n) in let here : get_or (set ws stopped_at x) stopped_at 0 ≡ x = get_or-set_same ws stopped_at x 0
      (omega arith) in let is = ap (λ (z : Round). z.stopped) its_round in
      changed_words t S remarked ws stopped_at x (omega arith) w refl (ap (λ (z : Round). z.stoppable) its_round) refl
      (λ some. other finished_at (λ z. omega arith) ∙ (w.finished some ∙ sym (ap (λ (z : Round). length z.finished) its_round)))
      (λ _. ((λ yes. here ∙ on (sym is ∙ yes)), (λ no. here ∙ off (sym is ∙ no))))
      (λ n e. counters_stay t S remarked ws (set ws stopped_at x) n (other remainder_at (λ z. omega arith))
      (λ i lt. other (range_at i) (λ z. omega arith)) free_on free_back (λ z. was (sym is ∙ z)) (w.counters n e))

module _ {N : Type 0} (S : State) (stop : Bool) (id q : ℕ) (v : View N) (shows : Shows S id v) (inside_q : v.standing ≡ Inside q) (is : stop ≡ true) where
  abbrev pub with_seen : State
  with_seen = remarked S stop (put (now S).seen id true)

  -- the seat of the party that stops the round, or sees the stop
  pub sees_stop : (trail : List (Trace Kind)) (b : Bool) → b ≡ true → let w : View N = record v { known = record v.known { seen_stop = b }; trail = trail } in
      Shows with_seen id w
  sees_stop trail b on = let round = its_round S stop (put (now S).seen id true) in let st = subst (Stands S id) inside_q shows.stands in
      let knows = shows.inside q inside_q in shows_by (subst (Stands with_seen id) (sym inside_q) (st.0, st.1)) shows.leads shows.claim shows.share
      (λ a e. knows_by (λ m e. let old = knows.number m e in (old.0, ap (λ (z : Round). z.stoppable) round ∙ old.1)) knows.unpublished
      (ap (λ (z : Round). z.seen id) round ∙ (put_here (now S).seen id true ∙ sym on)) (λ m j e l. inr (ap (λ (z : Round). z.stopped) round ∙ is)) knows.unread)

module _ {X N : Type 0} (D : Discipline X N) (law : Lawful D) (t : ℕ) where
  pub halts : (slots id : ℕ) (me : SeatOf D t) (k : ℕ) → MayStop k me.0 → Store D t slots id me stopped_at 1 (Stop id ∷ []) StopTells
  halts slots id me k may = stores D law t slots id me stopped_at 1 (Stop id ∷ []) stopping (step slots stopped_at 1 0 none) (λ run s b. let r = b.rule in
      let at = b.at in let S : State = state run in let seat = r.seats id me.0 at in let shows = seat.0 in
      let number = (shows.inside may.0.0.0 may.0.0.1).number may.1.0 may.1.1 in let seen : ℕ → Bool = put (now S).seen id true in
      let runs : (party S id).running ≡ Some k = shows.claim ∙ may.0.1 in
      let own : S.round ≡ round_of me.0.standing = (subst (Stands S id) may.0.0.1 shows.stands).1 ∙ sym (ap round_of may.0.0.1) in
      let w : View N = stopping 1 me.0 in moves D law t run s r stopped_at 1 id me w (Stop id ∷ []) at (refl, tt) (tt, tt) (refl, refl, refl)
      (((k, runs), number.1 ∙ may.2), r.is_run)
      (words_after S true seen t s.words 1 r.words (λ _. refl) (λ e. absurd cc) (λ e. absurd cc))
      (sees_stop S true id may.0.0.0 me.0 shows may.0.0.1 refl w.trail true refl)
      ((λ z. Stopped (sym own z) (number_or (may.0.1 z)) ∷ seat.1 z) ∙ sym
      (ap (λ (b : Bool). (if b then stopped_by S.round (party S id).running else []) ++ deeds id run) (eq-eqb id id refl) ∙ ap
      (λ (o : Option ℕ). stopped_by S.round o ++ deeds id run) runs)) refl (inr refl) refl refl (inr (λ e. let a = number.0 in cc)))

  -- the word says whether the round was stopped
  pub sees : (slots id : ℕ) (me : SeatOf D t) → MaySee me.0 → Load D t slots id me stopped_at (λ found. if found == 1 then See id ∷ [] else []) SeeTells
  sees slots id me may = record {
    shows = λ run s r _ at _. let x : ℕ = get_or s.words stopped_at 0 in let S : State = state run in let h = sound run r.is_run in
        let seat = r.seats id me.0 at in let shows = seat.0 in let st = subst (Stands S id) may.0.1 shows.stands in let knows = shows.inside may.0.0 may.0.1 in
        let number = knows.number may.1.0 may.1.1 in let says = r.words.stopped (λ e. let a = number.0 in cc) in let w : View N = seeing x me.0 in ⊎_elim
        (λ (on : (now S).stopped ≡ true). let one : x ≡ 1 = says.0 on in let seen : ℕ → Bool = put (now S).seen id true in (
          w,
          keeps,
          tt,
          subst (λ b. Rule D t ((if b then See id ∷ [] else []) ++ run) (stepped s stopped_at x id me.1 w keeps)) (sym (eq-eqb x 1 one))
              (moves D law t run s r stopped_at x id me w (See id ∷ []) at (refl, tt) (tt, tt) (refl, refl, refl) ((st.0, on), r.is_run)
              (words_after S (now S).stopped seen t s.words x r.words says.0 says.1 (λ e. e))
              (sees_stop S (now S).stopped id may.0.0 me.0 shows may.0.1 on w.trail (x == 1) (eq-eqb x 1 one))
              (seat.1 ∙ sym (no_deed id (deeds id run))) refl (inr refl) refl refl (inr (λ e. let a = number.0 in cc))),
          (refl, refl, omega arith),
        ))
        (λ (off : (now S).stopped ≡ false). let zero_read : x ≡ 0 = says.1 off in (
          w,
          keeps,
          tt,
          subst (λ b. Rule D t ((if b then See id ∷ [] else []) ++ run) (stepped s stopped_at x id me.1 w keeps)) (sym (ap (λ (z : ℕ). z == 1) zero_read))
              (stays D law t run s r stopped_at id me w at (refl, refl, refl)
              (shows_by shows.stands shows.leads shows.claim shows.share (λ a e. knows_by knows.number knows.unpublished
              (untrue ((now S).seen id) (λ e. let a = h.work.saw id e in cc) ∙ sym (ap (λ (z : ℕ). z == 1) zero_read)) knows.emptied knows.unread))
              refl refl (inr refl) refl),
          (refl, refl, omega arith),
        )) (true_or (now S).stopped);
  }

-- A share goes back.
module _ (S : State) (h : Sound S) (id from to : ℕ) (share : IsShare (party S id).taken from to) where
  abbrev pub emptied : Party
  emptied = record (party S id) { taken = no_set }

  abbrev pub given : State
  given = after S (PutBack id)

  -- nobody has what nobody else had
  given_taken : (j a : ℕ) → (a ≢ id → (party S a).taken j ≡ false) → (party given a).taken j ≡ false
  given_taken j a else_free = dite (ℕ_discrete a id)
      (λ e. subst (λ (z : ℕ). (party given z).taken j ≡ false) (sym e) (ap (λ (z : Party). z.taken j) (look_here S.parties id emptied)))
      (λ n. ap (λ (z : Party). z.taken j) (look_else S.parties id emptied a n) ∙ else_free n)

  -- its numbers are free, and what was free is
  pub given_free : (j : ℕ) → from ≤ j → j < to → Free given j
  given_free j low high = let mine = (h.work.fits id).held j ((share j).1 (low, high)) in (
    h.work.below j (λ e. cc),
    h.work.begun j ∙ ap started mine,
    λ a. given_taken j a (λ n. untrue ((party S a).taken j) (λ on. let other = (h.work.fits a).held j on in let both : Held id ≡ Held a = sym mine ∙ other in
        let same : id ≡ a = cc in n (sym same))),
  )

  given_on : (j : ℕ) → Free S j → Free given j
  given_on j f = (f.0, f.1, λ a. given_taken j a (λ _. f.2 a))

  free_or : (j : ℕ) → Free given j → (Free S j) ⊎ ((from ≤ j) × (j < to))
  free_or j f = ⊎_elim (λ on. inr ((share j).0 on)) (λ off. inl (
    f.0,
    f.1,
    λ a. dite (ℕ_discrete a id) (λ e. subst (λ (z : ℕ). (party S z).taken j ≡ false) (sym e) off)
        (λ n. sym (ap (λ (z : Party). z.taken j) (look_else S.parties id emptied a n)) ∙ f.2 a),
  )) (true_or ((party S id).taken j))

  not_shared : (j : ℕ) → Free S j → (from ≤ j) × (j < to) → ⊥
  not_shared j f z = let a = f.2 id in let b = (share j).1 z in cc

  module _ (t n i old new : ℕ) (ws : List ℕ) (c : Counters t S ws n) (stopped : (now S).stopped ≡ true) (low : i < t) (deep : range_at i < length ws)
      (hit : get_or ws (range_at i) 0 ≡ old) (vacant : end_of old ≤ start_of old)
      (start_is : start_of new ≡ from) (end_is : end_of new ≡ to) (tidy : from ≤ to) where
    abbrev after_put : List ℕ
    after_put = set ws (range_at i) new

    rest_other : get_or after_put remainder_at 0 ≡ get_or ws remainder_at 0
    rest_other = get_or-set_other ws (range_at i) remainder_at new 0 (λ e. omega arith)

    -- a number in a range afterwards is of the share, or was in that range
    which : (a j : ℕ) → InRange after_put a j → ((a ≡ i) × ((from ≤ j) × (j < to))) ⊎ ((a ≢ i) × InRange ws a j)
    which a j z = dite (ℕ_discrete a i) (λ e. let z' : IsWithin new j = subst (λ (w : ℕ). IsWithin w j)
        (range_here ws i new a deep e) z in let z₀ = z'.0 in let z₁ = z'.1 in inl (e, (omega arith, omega arith)))
        (λ ne. inr (ne, subst (λ (w : ℕ). IsWithin w j) (range_else ws i new a ne) z))

    into : (j : ℕ) → (from ≤ j) × (j < to) → InRange after_put i j
    into j z = let z₀ = z.0 in let z₁ = z.1 in subst (λ (w : ℕ). IsWithin w j) (sym (get_or-set_same ws (range_at i) new 0 deep)) (omega arith, omega arith)

    none_there : (j : ℕ) → InRange ws i j → ⊥
    none_there j z = let z' : IsWithin old j = subst (λ (w : ℕ). IsWithin w j) hit z in let z₀ = z'.0 in let z₁ = z'.1 in omega arith

    rest_was : (j : ℕ) → InRemainder after_put n j → InRemainder ws n j
    rest_was j z = let e = rest_other in let z₀ = z.0 in (omega arith, z.1)

    pub given_counters : Counters t given after_put n
    given_counters = record {
      free = λ j f. ⊎_elim (λ (g : Free S j). ⊎_elim (λ (z : (a : ℕ) × (a < t) × InRange ws a j). inl
          (z.0, z.1, subst (λ (w : ℕ). IsWithin w j) (sym (range_else ws i new z.0 (λ e. none_there j (subst (λ (a : ℕ). InRange ws a j) e z.2)))) z.2))
          (λ (z : InRemainder ws n j). let e = rest_other in let z₀ = z.0 in inr (omega arith, z.1)) (c.free j g))
          (λ (z : (from ≤ j) × (j < to)). inl (i, low, into j z)) (free_or j f);
      ranges = λ a j lt z. ⊎_elim (λ (y : (a ≡ i) × ((from ≤ j) × (j < to))). given_free j y.1.0 y.1.1)
          (λ (y : (a ≢ i) × InRange ws a j). given_on j (c.ranges a j lt y.1)) (which a j z);
      remainder = λ j z. given_on j (c.remainder j (rest_was j z));
      few = let e = rest_other in let f = c.few in omega arith;
      home = λ going. absurd cc;
      apart = λ a b j la lb x y. ⊎_elim (λ (x' : (a ≡ i) × ((from ≤ j) × (j < to))). ⊎_elim (λ (y' : (b ≡ i) × ((from ≤ j) × (j < to))). x'.0 ∙ sym y'.0)
          (λ (y' : (b ≢ i) × InRange ws b j). absurd (not_shared j (c.ranges b j lb y'.1) x'.1)) (which b j y))
          (λ (x' : (a ≢ i) × InRange ws a j). ⊎_elim (λ (y' : (b ≡ i) × ((from ≤ j) × (j < to))). absurd (not_shared j (c.ranges a j la x'.1) y'.1))
          (λ (y' : (b ≢ i) × InRange ws b j). c.apart a b j la lb x'.1 y'.1) (which b j y)) (which a j x);
      remainder_apart = λ a j lt x y. ⊎_elim (λ (x' : (a ≡ i) × ((from ≤ j) × (j < to))). not_shared j (c.remainder j (rest_was j y)) x'.1)
          (λ (x' : (a ≢ i) × InRange ws a j). c.remainder_apart a j lt x'.1 (rest_was j y)) (which a j x);
      ordered = λ a lt. dite (ℕ_discrete a i) (λ e. subst (λ (w : ℕ). start_of w ≤ end_of w) (sym (range_here ws i new a deep e)) (omega arith))
          (λ ne. subst (λ (w : ℕ). start_of w ≤ end_of w) (sym (range_else ws i new a ne)) (c.ordered a lt));
    }

module _ {X N : Type 0} (D : Discipline X N) (law : Lawful D) (t : ℕ) where
  pub puts : (slots id : ℕ) (me : SeatOf D t) (i old new : ℕ) → i < t → MayPutBack me.0 → end_of old ≤ start_of old → start_of new ≡ me.0.from
      → end_of new ≡ me.0.to → me.0.from ≤ me.0.to
      → Exchange D t slots id me (range_at i) old new (PutBack id ∷ []) PutBackTells
  puts slots id me i old new low may vacant start_is end_is tidy = let word_at : ℕ = range_at i in
      exchanges D law t slots id me word_at old new (PutBack id ∷ []) (putting_back word_at) (λ run s b hit. let r = b.rule in let at = b.at in
      let S : State = state run in let h = sound run r.is_run in let seat = r.seats id me.0 at in let shows = seat.0 in let q = may.0.0 in
      let st = subst (Stands S id) may.0.1 shows.stands in let knows = shows.inside q may.0.1 in let seen : (now S).seen id ≡ true = knows.seen ∙ may.2 in
      let stopped = h.work.saw id seen in let is_shown : S.published ≢ None = some_published S h id st.0 (h.work.stops stopped).1 in
      let S' : State = given S h id me.0.from me.0.to shows.share in let y : Party = emptied S h id me.0.from me.0.to shows.share in
      let look = look_here S.parties id y in let w : View N = putting_back word_at (get_or s.words word_at 0) me.0 in let wide = r.words.wide in
      moves D law t run s r word_at new id me w (PutBack id ∷ []) at (refl, tt) (tt, tt) (refl, refl, refl) ((st.0, seen, shows.claim ∙ may.1), r.is_run)
      (later_words t S S' s.words word_at new _ (omega arith) r.words refl refl refl refl refl
      (word_stays S id y refl S' refl refl)
      (λ n e. given_counters S h id me.0.from me.0.to shows.share t n i old new s.words (r.words.counters n e) stopped low
      (omega arith) hit vacant start_is end_is tidy))
      (shows_by (subst (Stands S' id) (sym may.0.1) (ap (λ (z : Party). z.status) look ∙ st.0, st.1)) shows.leads
      (ap (λ (z : Party). z.running) look ∙ shows.claim)
      (subst (λ (f : ℕ → Bool). IsShare f me.0.to me.0.to) (sym (ap (λ (z : Party). z.taken) look))
      (λ j. ((λ e. absurd cc), (λ z. let z₀ = z.0 in let z₁ = z.1 in absurd (omega arith)))))
      (λ a e. knows_by knows.number knows.unpublished knows.seen (λ m j e l. inr stopped) knows.unread))
      (seat.1 ∙ sym (no_deed id (deeds id run))) refl (inr refl) refl refl (inr is_shown))
