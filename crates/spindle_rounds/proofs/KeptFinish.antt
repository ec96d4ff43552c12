-- The fetch_add with which a number finishes.
use Rattle.std.proofs.Common.{◌≡◌, ◌≢◌, ◌⊎◌, inl, inr, ⊎_elim, ℕ, zero, suc, ◌+◌, ◌%◌, ◌<◌, ◌≤◌, Bool, true, eq-eqb, List, [], ◌∷◌, ◌++◌, length, length-append}
use Rattle.std.proofs.Common.{get_or, set, get_or-set_same, get_or-set_other, sym, refl, ap, ◌∙◌, subst, arith, Option, Some, None, if◌then◌else◌}
use mathlib.Core.Option.{some}
use lib.ListN.{get_elem?}
use Rattle.spindle_parts.specs.State.{State, Party, Round, now, party, times, Free}
use Rattle.spindle_parts.specs.Steps.{Finish, after, ended_by}
use Rattle.spindle_parts.specs.Runs.{state}
use Rattle.spindle_parts.proofs.Fates.{Fate, Open, Ran, started, over}
use Rattle.spindle_parts.proofs.Parties.{put_here, put_all, look_here, times_same, times_else, tick_same, tick_else}
use Rattle.spindle_parts.proofs.Soundness.{Sound, sound}
use Rattle.spindle_rounds.specs.declared.round_table.view.View.{View}
use Rattle.spindle_rounds.specs.RoundSlots.{Discipline, Lawful, Finishes}
use Rattle.spindle_rounds.specs.RoundShown.{Ended, ended_in, deeds, Stands, Knows, Words, IsListed, IsEmptied}
use Rattle.spindle_rounds.specs.Words.{finished_at, stopped_at, remainder_at, range_at, most_jobs}
use Rattle.spindle_rounds.specs.RoundSteps.{round_of, number_or, list_all, list_finished, finishing}
use Rattle.spindle_rounds.specs.RoundTells.{FinishTells}
use Rattle.spindle_rounds.specs.RoundConditions.{MayFinish}
use Rattle.spindle_rounds.specs.RoundRuns.{Addition}
use Rattle.spindle_rounds.proofs.RoundTrails.{sum, sum_zero, sum_more}
use Rattle.spindle_rounds.proofs.RoundMoves.{SeatOf, moves_with, still_laid, shows_by, knows_by, knows_on}
use Rattle.spindle_rounds.proofs.RoundWords.{by_equal, word_stays, counters_stay, taken_put}
use Rattle.spindle_rounds.proofs.RoundChanges.{changed_words, some_published}

-- the party id finishes k
module _ (S : State) (id k : ℕ) (runs : (party S id).running ≡ Some k) where
  abbrev pub idle : Party
  idle = record (party S id) { running = None }

  abbrev pub counted : Round
  counted = record (now S) { finished = (now S).finished ++ ended_by (party S id).running }

  abbrev pub done : State
  done = after S (Finish id)

  pub its_round : now done ≡ record (now S) { finished = (now S).finished ++ k ∷ [] }
  its_round = put_here S.rounds S.round counted ∙ ap (λ (o : Option ℕ). let z : Round = record (now S) { finished = (now S).finished ++ ended_by o } in z) runs

  pub taken_same : (a j : ℕ) → (party done a).taken j ≡ (party S a).taken j
  taken_same a j = taken_put S.parties id idle j refl a

  free_on : (j : ℕ) → Free S j → Free done j
  free_on j f = (subst (λ (z : Round). j < z.jobs) (sym its_round) f.0, ap (λ (z : Round). times j z.begun) its_round ∙ f.1, λ a. taken_same a j ∙ f.2 a)

  pub free_back : (j : ℕ) → Free done j → Free S j
  free_back j f = let begun = ap (λ (z : Round). times j z.begun) its_round in
      (subst (λ (z : Round). j < z.jobs) its_round f.0, sym begun ∙ f.1, λ a. sym (taken_same a j) ∙ f.2 a)

  -- where it is the last, as many have finished as there are jobs
  pub all_done : (x m : ℕ) → x ≡ length (now S).finished → m ≡ x + 1 → (now S).jobs ≡ m → length (now done).finished ≡ (now done).jobs
  all_done x m is last jobs = let a = ap (λ (z : Round). length z.finished) its_round ∙ length-append (now S).finished (k ∷ []) in
      let b = ap (λ (z : Round). z.jobs) its_round in omega arith

  -- to the slots, k finishes
  pub finishes_here : Finishes S done k
  finishes_here = let snoc : counted.finished ≡ (now S).finished ++ k ∷ [] = ap (λ (o : Option ℕ). (now S).finished ++ ended_by o) runs in record {
    round = refl;
    published = refl;
    begun = λ q j. put_all (λ a z. times j z.begun ≡ times j (S.rounds a).begun) S.rounds S.round counted refl (λ a z. refl) q;
    finished = λ q j o. put_all (λ a z. (a ≢ S.round) ⊎ (j ≢ k) → times j z.finished ≡ times j (S.rounds a).finished) S.rounds S.round counted
        (λ o. ⊎_elim (λ (z : S.round ≢ S.round). absurd (z refl)) (λ (z : j ≢ k). ap (times j) snoc ∙ times_else j (now S).finished k z) o) (λ a z o. refl) q o;
    after = (let a = ap (λ (z : Round). times k z.finished) its_round in let b = times_same k (now S).finished in omega arith);
  }

  pub words_after : (t : ℕ) (ws : List ℕ) (x : ℕ) → Words t S ws → S.published ≢ None → x ≡ length (now S).finished + 1 → Words t done (set ws finished_at x)
  words_after t ws x w shown is = let wide = w.wide in let other : (j : ℕ) → j ≢ finished_at → get_or (set ws finished_at x) j 0 ≡ get_or ws j 0 =
      (λ j n. get_or-set_other ws finished_at j x 0 n) in
      changed_words t S done ws finished_at x (omega arith) w refl (ap (λ (z : Round). z.stoppable) its_round)
      (word_stays S id idle refl done refl refl)
      (λ _. get_or-set_same ws finished_at x 0 (omega arith) ∙ (is ∙ (sym (length-append (now S).finished (k ∷ [])) ∙ sym
      (ap (λ (z : Round). length z.finished) its_round))))
      (λ on. let e = ap (λ (z : Round). z.stopped) its_round in (
        (λ yes. other stopped_at (λ z. omega arith) ∙ (w.stopped on).0 (sym e ∙ yes)),
        (λ no. other stopped_at (λ z. omega arith) ∙ (w.stopped on).1 (sym e ∙ no)),
      ))
      (λ n e. counters_stay t S done ws (set ws finished_at x) n (other remainder_at (λ z. omega arith))
      (λ i lt. other (range_at i) (λ z. omega arith)) free_on free_back (λ on. sym (ap (λ (z : Round). z.stopped) its_round) ∙ on) (w.counters n e))

-- a list is as long as the numbers below n stand in it, where there are no others
spread_all : (n : ℕ) (l : List ℕ) → ((k : ℕ) → 0 < times k l → k < n) → length l ≡ sum n (λ k. times k l)
spread_all n [] below = sym (sum_zero n)
spread_all n (x ∷ xs) below = let b = tick_same x in let a = spread_all n xs (λ k lt. below k (omega arith)) in
    let c = sum_more n x 1 (λ k. times k (x ∷ xs)) (λ k. times k xs) (below x (omega arith)) (omega arith)
    (λ k other. let d = tick_else x k (λ e. other (sym e)) in omega arith) in omega arith

sum_few : (n : ℕ) (f : ℕ → ℕ) → ((k : ℕ) → f k ≤ 1) → sum n f ≤ n
sum_few zero f once = omega arith
sum_few (suc n) f once = let a = sum_few n (λ k. f (suc k)) (λ k. once (suc k)) in let b = once 0 in omega arith

once_finished : (S : State) (h : Sound S) (k : ℕ) → times k (now S).finished ≤ 1
once_finished S h k = let e = h.work.finished k in let c = over_le (h.fate k) in omega arith
  where
    over_le : (f : Fate) → over f ≤ 1
    over_le Open = omega arith
    over_le f = omega arith

below_jobs : (S : State) (h : Sound S) (k : ℕ) → 0 < times k (now S).finished → k < (now S).jobs
below_jobs S h k lt = h.work.below k (λ e. let a = h.work.finished k in let c = ap over e in omega arith)

-- no more numbers have finished than there are jobs
few_finished : (S : State) → Sound S → (now S).jobs ≤ most_jobs → length (now S).finished < 18446744073709551615
few_finished S h few = let l : List ℕ = (now S).finished in let n : ℕ = (now S).jobs in let a = spread_all n l (λ k lt. below_jobs S h k lt) in
    let b = sum_few n (λ k. times k l) (λ k. once_finished S h k) in omega arith

-- and no round has more jobs than a published one may have
few_jobs : (S : State) → Sound S → S.published ≢ None → (now S).jobs ≤ most_jobs
few_jobs S h shown = go S.published shown (λ m e. let g = h.gate.shown m e in let g₀ = g.0 in let g₂ = g.2 in omega arith)
  where
    go : (o : Option ℕ) → o ≢ None → ((m : ℕ) → o ≡ Some m → (now S).jobs ≤ most_jobs) → (now S).jobs ≤ most_jobs
    go None n f = absurd (n refl)
    go (Some m) n f = f m refl

-- where numbers of at most 1 add up to how many they are, none is 0
sum_full : (n : ℕ) (f : ℕ → ℕ) → ((k : ℕ) → f k ≤ 1) → sum n f ≡ n → (k : ℕ) → k < n → f k ≡ 1
sum_full zero f once all k lt = absurd (omega arith)
sum_full (suc n) f once all zero lt = let a = sum_few n (λ k. f (suc k)) (λ k. once (suc k)) in let b = once 0 in omega arith
sum_full (suc n) f once all (suc k) lt = let b = once 0 in let few = sum_few n (λ k. f (suc k)) (λ k. once (suc k)) in
    sum_full n (λ k. f (suc k)) (λ k. once (suc k)) (omega arith) k (omega arith)

-- once as many have finished as there are jobs, no number is free
none_free : (S : State) → Sound S → length (now S).finished ≡ (now S).jobs → (k : ℕ) → Free S k → ⊥
none_free S h all k free = let l : List ℕ = (now S).finished in let n : ℕ = (now S).jobs in let a = spread_all n l (λ j lt. below_jobs S h j lt) in
    let one = sum_full n (λ j. times j l) (λ j. once_finished S h j) (omega arith) k free.0 in
    begun_first (h.fate k) (sym (h.work.finished k) ∙ one) (sym (h.work.begun k) ∙ free.1)
  where
    begun_first : (f : Fate) → over f ≡ 1 → started f ≡ 0 → ⊥
    begun_first Open a b = absurd cc
    begun_first f a b = absurd cc

-- what the list says once so many have finished
listed_finished : (o : Option ℕ) (n done t : ℕ) (l : List ℕ) (P : ℕ → Type 0) → o ≡ Some n → (n ≡ done → (i : ℕ) → P i) → ((j : ℕ) → IsListed j l → P j)
    → (j : ℕ) → IsListed j (list_finished o done t l) → P j
listed_finished None n done t l P e here old j = absurd cc
listed_finished (Some m) n done t l P e here old j = let same : m ≡ n = cc in
    by_equal m done (λ b. IsListed j (if b then list_all t l else l) → P j) (λ is _. here (sym same ∙ is) j) (λ _ h. old j h)

unlisted_finished : (o : Option ℕ) (done t : ℕ) (l : List ℕ) → o ≡ None → l ≡ [] → list_finished o done t l ≡ []
unlisted_finished None done t l e z = z
unlisted_finished (Some n) done t l e z = absurd cc

module _ {X N : Type 0} (D : Discipline X N) (law : Lawful D) (t : ℕ) where
  pub finishes : (slots id : ℕ) (me : SeatOf D t) (k : ℕ) → MayFinish k me.0 → D.may_give k me.0.note me.1 → Addition D t slots id me finished_at
      (Finish id ∷ []) (FinishTells D)
  finishes slots id me k may give = record {
    shows = λ run s r _ at small. let x : ℕ = get_or s.words finished_at 0 in let S : State = state run in let h = sound run r.is_run in
        let shows = (r.seats id me.0 at).0 in let st = subst (Stands S id) may.0.1 shows.stands in let knows = shows.inside may.0.0 may.0.1 in
        let runs : (party S id).running ≡ Some k = shows.claim ∙ may.1 in let S' : State = done S id k runs in let w : View N = finishing x me.0 in
        let ran = (h.work.fits id).ran k runs in let below : k < (now S).jobs = h.work.below k (λ e. cc) in
        let is_shown : S.published ≢ None = some_published S h id st.0 (omega arith) in let few = few_finished S h (few_jobs S h is_shown) in
        let is = r.words.finished is_shown in let new : (x + 1) % 18446744073709551616 ≡ length (now S).finished + 1 = omega arith in
        let alone : (p : ℕ) (u : View N) → p ≢ id → get_elem? s.views p ≡ some u → u.claim ≢ Some k =
        (λ p u n e c. let a = (h.work.fits p).ran k ((r.seats p u e).0.claim ∙ c) in let b : Ran p ≡ Ran id = sym a ∙ ran in let d : p ≡ id = cc in n d) in
        let g = law.finishes S S' s.homes s.views id me.0 w me.1 k r.slots (finishes_here S id k runs) at may.1 alone (refl, refl) give in
        let look = look_here S.parties id (idle S id k runs) in let round = its_round S id k runs in
        let own : S.round ≡ round_of me.0.standing = st.1 ∙ sym (ap round_of may.0.1) in (
          w,
          D.gives,
          g.0,
          moves_with D t run s r finished_at ((x + 1) % 18446744073709551616) id me w D.gives (Finish id ∷ []) at (refl, tt) ((k, runs), r.is_run)
              (words_after S id k runs t s.words ((x + 1) % 18446744073709551616) r.words is_shown new)
              (shows_by (subst (Stands S' id) (sym may.0.1) (ap (λ (z : Party). z.status) look ∙ st.0, st.1)) shows.leads (ap (λ (z : Party). z.running) look)
              (λ j. subst (λ (z : Bool). ((z ≡ true) → (me.0.from ≤ j) × (j < me.0.to)) × ((me.0.from ≤ j) × (j < me.0.to) → z ≡ true))
              (sym (taken_same S id k runs id j)) (shows.share j))
              (λ a e. let old : Knows me.0.threads S' id me.0.known = knows_on knows refl round refl refl refl (free_back S id k runs) in
              knows_by old.number old.unpublished old.seen
              (λ m j e l. listed_finished me.0.known.number m (x + 1) me.0.threads me.0.known.emptied (IsEmptied me.0.threads m S') e
              (λ last i. inl (λ a f _. none_free S' (sound (Finish id ∷ run) ((k, runs), r.is_run))
              (all_done S id k runs x m is last (h.gate.shown m (knows.number m e).0).0) a f)) (λ i' l'. old.emptied m i' e l') j l)
              (λ e. unlisted_finished me.0.known.number (x + 1) me.0.threads me.0.known.emptied e (knows.unread e))))
              ((λ z. Ended (sym own z) (number_or (may.1 z)) ∷ (r.seats id me.0 at).1 z) ∙ sym
              (ap (λ (b : Bool). (if b then ended_in S.round (party S id).running else []) ++ deeds id run) (eq-eqb id id refl) ∙ ap
              (λ (o : Option ℕ). ended_in S.round o ++ deeds id run) runs)) refl
              (still_laid D t run s r finished_at ((x + 1) % 18446744073709551616) id me w (Finish id ∷ []) at (inr refl) refl refl (λ _. refl) (inr is_shown))
              g.1,
          (refl, refl),
        );
  }
