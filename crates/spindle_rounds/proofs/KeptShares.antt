-- The store with which the first number of a share begins.
use Rattle.std.proofs.Common.{◌≡◌, ◌≢◌, inr, ℕ, ◌+◌, ◌<◌, ◌≤◌, Bool, true, false, eq-eqb, List, [], ◌∷◌, ◌++◌, set}
use Rattle.std.proofs.Common.{get_or-set_other, sym, refl, ap, ◌∙◌, subst, arith, Option, Some, None, if◌then◌else◌}
use mathlib.Core.Logic.{dite}
use native.Mathlib.Decide.{ℕ_discrete}
use Rattle.spindle_parts.specs.State.{State, Party, Round, put, now, party, times, Free}
use Rattle.spindle_parts.specs.Steps.{Begin, after}
use Rattle.spindle_parts.specs.Runs.{state}
use Rattle.spindle_parts.proofs.Fates.{Held, started, over}
use Rattle.spindle_parts.proofs.Parties.{put_here, put_else, look_here, times_same, times_else}
use Rattle.spindle_parts.proofs.Soundness.{Sound, sound}
use Rattle.spindle_rounds.specs.declared.round_table.view.View.{View}
use Rattle.spindle_rounds.specs.RoundSlots.{Discipline, Lawful, Begins}
use Rattle.spindle_rounds.specs.RoundShown.{Began, deeds, Stands, Words, IsShare}
use Rattle.spindle_rounds.specs.Words.{remainder_at, range_at}
use Rattle.spindle_rounds.specs.RoundSteps.{round_of, sharing}
use Rattle.spindle_rounds.specs.RoundTells.{ShareTells}
use Rattle.spindle_rounds.specs.RoundConditions.{MayBegin}
use Rattle.spindle_rounds.specs.RoundRuns.{Store}
use Rattle.spindle_rounds.proofs.RoundMoves.{SeatOf, moves_with, still_laid, some_of, shows_by, knows_on}
use Rattle.spindle_rounds.proofs.RoundNumbers.{begins}
use Rattle.spindle_rounds.proofs.RoundWords.{word_stays, counters_stay, taken_put}
use Rattle.spindle_rounds.proofs.RoundChanges.{later_words, some_published}

-- the party id begins k, which it has taken
module _ (S : State) (h : Sound S) (id k : ℕ) (held : (party S id).taken k ≡ true) where
  abbrev pub without : Party
  without = record (party S id) { running = Some k; taken = put (party S id).taken k false }

  abbrev pub begun : State
  begun = after S (Begin id k)

  pub its_party : party begun id ≡ without
  its_party = look_here S.parties id without

  pub its_round : now begun ≡ record (now S) { begun = (now S).begun ++ k ∷ [] }
  its_round = put_here S.rounds S.round (record (now S) { begun = (now S).begun ++ k ∷ [] })

  mine : h.fate k ≡ Held id
  mine = (h.work.fits id).held k held

  unbegun : times k (now S).begun ≡ 0
  unbegun = h.work.begun k ∙ ap started mine

  pub in_round : k < (now S).jobs
  in_round = h.work.below k (λ e. let a = mine in cc)

  taken_else : (j a : ℕ) → j ≢ k → (party begun a).taken j ≡ (party S a).taken j
  taken_else j a n = taken_put S.parties id without j (put_else (party S id).taken k false j n) a

  free_on : (j : ℕ) → Free S j → Free begun j
  free_on j f = let n : j ≢ k = (λ e. let a = ap (party S id).taken e in let b = f.2 id in cc) in (
    subst (λ (z : Round). j < z.jobs) (sym its_round) f.0,
    ap (λ (z : Round). times j z.begun) its_round ∙ (times_else j (now S).begun k n ∙ f.1),
    λ a. taken_else j a n ∙ f.2 a,
  )

  pub free_back : (j : ℕ) → Free begun j → Free S j
  free_back j f = let c = ap (λ (z : Round). times j z.begun) its_round in
      let n : j ≢ k = (λ e. let a = times_same k (now S).begun in let b = ap (λ (z : ℕ). times z ((now S).begun ++ k ∷ [])) e in let d = f.1 in
      absurd (omega arith)) in
      (subst (λ (z : Round). j < z.jobs) its_round f.0, sym (times_else j (now S).begun k n) ∙ (sym c ∙ f.1), λ a. sym (taken_else j a n) ∙ f.2 a)

  pub words_after : (t i x : ℕ) (ws : List ℕ) → range_at t ≤ i → Words t S ws → Words t begun (set ws i x)
  words_after t i x ws high w = later_words t S begun ws i x _ (omega arith) w refl its_round refl refl refl (word_stays S id without refl begun refl refl)
      (λ n e. counters_stay t S begun ws (set ws i x) n (get_or-set_other ws i remainder_at x 0 (λ z. omega arith))
      (λ j lt. get_or-set_other ws i (range_at j) x 0 (λ z. omega arith)) free_on free_back (λ on. sym (ap (λ (z : Round). z.stopped) its_round) ∙ on)
      (w.counters n e))

  -- to the slots, k begins
  pub begins_here : (n : ℕ) → S.published ≡ Some n → Begins S begun k
  begins_here n shown = let jobs = (h.gate.shown n shown).0 in let below = in_round in
      begins S begun.parties S.closer k n unbegun (h.work.finished k ∙ ap over mine) shown (omega arith)

module _ {X N : Type 0} (D : Discipline X N) (law : Lawful D) (t : ℕ) where
  pub shares : (slots id : ℕ) (me : SeatOf D t) (i new : ℕ) → t ≤ i → MayBegin me.0 → me.0.from < me.0.to → Store D t slots id me (range_at i) new
      (Begin id me.0.from ∷ []) (ShareTells D)
  shares slots id me i new high may some = record {
    shows = λ run s r _ at _. let word_at : ℕ = range_at i in let q = may.0.0 in let k : ℕ = me.0.from in let S : State = state run in
        let h = sound run r.is_run in let seat = r.seats id me.0 at in let shows = seat.0 in let st = subst (Stands S id) may.0.1 shows.stands in
        let knows = shows.inside q may.0.1 in let held : (party S id).taken k ≡ true = (shows.share k).1 (omega arith, some) in
        let S' : State = begun S h id k held in
        let is_shown : S.published ≢ None = some_published S h id st.0 (let a = in_round S h id k held in omega arith) in
        let n = some_of S.published is_shown in let w : Option N → View N = (λ x. sharing word_at new x me.0) in
        let b = law.begins S S' s.homes s.views id me.0 me.1 k w r.slots (begins_here S h id k held n.0 n.1) at (λ o. (refl, refl, refl)) in
        let last = its_party S h id k held in let round = its_round S h id k held in
        let own : S.round ≡ round_of me.0.standing = st.1 ∙ sym (ap round_of may.0.1) in (
          w b.0,
          b.1,
          b.2,
          moves_with D t run s r word_at new id me (w b.0) b.1 (Begin id k ∷ []) at (refl, tt) ((st.0, knows.seen ∙ may.2, shows.claim ∙ may.1, held), r.is_run)
              (words_after S h id k held t word_at new s.words (omega arith) r.words)
              (shows_by (subst (Stands S' id) (sym may.0.1) (ap (λ (z : Party). z.status) last ∙ st.0, st.1)) shows.leads (ap (λ (z : Party). z.running) last)
              (subst (λ (f : ℕ → Bool). IsShare f (k + 1) me.0.to) (sym (ap (λ (z : Party). z.taken) last)) (λ j. let old = shows.share j in
              dite (ℕ_discrete j k)
              (λ e. (
                (λ on. let a = put_here (party S id).taken k false in let b = ap (put (party S id).taken k false) e in absurd cc),
                (λ z. let z₀ = z.0 in absurd (omega arith)),
              ))
              (λ apart. let same = put_else (party S id).taken k false j apart in
              ((λ on. let z = old.0 (sym same ∙ on) in let z₀ = z.0 in (omega arith, z.1)), (λ z. let z₀ = z.0 in same ∙ old.1 (omega arith, z.1))))))
              (λ a e. knows_on knows refl round refl refl refl (free_back S h id k held)))
              ((λ z. Began (sym own z) k ∷ seat.1 z) ∙ sym (ap (λ (b : Bool). (if b then Began S.round k ∷ [] else []) ++ deeds id run)
              (eq-eqb id id refl))) refl
              (still_laid D t run s r word_at new id me (w b.0) (Begin id k ∷ []) at (inr refl) refl refl (λ _. refl) (inr is_shown)) b.3,
          (b.0, refl, b.4),
        );
  }
