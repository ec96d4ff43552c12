-- What a publish of the leader says of its round ever after, and what is so while nothing is published.
use Rattle.std.proofs.Common.{◌≡◌, ◌≢◌, ◌⊎◌, inl, inr, ⊎_elim, ℕ, ◌<◌, ◌≤◌, Bool, true, false, List, [], ◌∷◌, ◌++◌}
use Rattle.std.proofs.Common.{sym, refl, ap, ◌∙◌, subst, arith, Option, Some, None, if◌then◌else◌, ◌==◌}
use mathlib.Core.Logic.{dite}
use native.Mathlib.Decide.{ℕ_discrete, dec_le}
use Rattle.spindle_parts.specs.State.{State, Party, Round, now, party, times, put, members, put_party, Out}
use Rattle.spindle_parts.specs.Steps.{Event, Publish, PublishTry, Begin, Finish, Stop, See, Exit, with_status, Allowed, after, by, arrived, publish, ended_by}
use Rattle.spindle_parts.specs.Runs.{state, IsRun}
use Rattle.spindle_parts.proofs.Parties.{next_round, put_here, put_else, put_all}
use Rattle.spindle_parts.proofs.Fates.{started, over, none_begun}
use Rattle.spindle_parts.proofs.Soundness.{Sound, sound, no_closer}
use Rattle.spindle_rounds.specs.RoundSlots.{AtRest}
use Rattle.spindle_rounds.specs.RoundShown.{Deed, Began, Ended, Showed, Stopped, ended_in, stopped_by, deed, deeds}
use Rattle.spindle_rounds.specs.SlotSteps.{IsDeed}
use Rattle.spindle_rounds.proofs.RoundWords.{by_equal}
use Rattle.spindle_rounds.proofs.RoundMoves.{untrue}

apart : (a b : ℕ) → a ≢ b → (a < b) ⊎ (b < a)
apart a b n = dite (dec_le b a) (λ le. inr (omega arith)) (λ no. inl (omega arith))

-- nothing runs while nothing is published and nobody closes
pub at_rest : (s : State) → Sound s → s.published ≡ None → s.closer ≡ None → AtRest s
at_rest s h hid open_now = let all = none_begun h.fate (now s) s.parties h.work (h.gate.hidden hid open_now) in record {
  hidden = hid;
  unbegun = λ k. h.work.begun k ∙ ap started (all k);
  over = λ r k. dite (ℕ_discrete r s.round)
      (λ e. subst (λ (z : ℕ). times k (s.rounds z).finished ≡ times k (s.rounds z).begun) (sym e) ((h.work.finished k ∙ ap over (all k)) ∙ sym (h.work.begun k
      ∙ ap started (all k))))
      (λ n. ⊎_elim (λ (lt : r < s.round). (h.ended r lt).same k) (λ (gt : s.round < r). let e = h.later r gt in ap (λ (z : Round). times k z.finished) e
      ∙ sym (ap (λ (z : Round). times k z.begun) e)) (apart r s.round n));
}

in_either : (d : Deed) (xs ys : List Deed) → IsDeed d (xs ++ ys) → IsDeed d xs ⊎ IsDeed d ys
in_either d [] ys e = inr e
in_either d (x ∷ xs) ys e = ⊎_elim (λ (z : x ≡ d). inl (inl z)) (λ z. ⊎_elim (λ y. inl (inr y)) inr (in_either d xs ys z)) e

in_own : (d : Deed) (b : Bool) (xs : List Deed) → IsDeed d (if b then xs else []) → IsDeed d xs
in_own d true xs e = e
in_own d false xs e = absurd e

-- a deed of the newest event of a run is one of its party, or was one before
pub newest_deed : (d : Deed) (p : ℕ) (e : Event) (es : List Event) → IsDeed d (deeds p (e ∷ es)) → IsDeed d (deed (state es) e) ⊎ IsDeed d (deeds p es)
newest_deed d p e es h = let s : State = state es in ⊎_elim (λ own. inl (in_own d (by e == p) (deed s e) own)) inr
    (in_either d (if by e == p then deed s e else []) (deeds p es) h)

module _ (b : Bool) where
  -- in the round r, which goes on or has ended, n jobs were published, and b says whether it may stop
  pub record WasShown (s : State) (r n : ℕ) : Type 0 where
    pub jobs : (s.rounds r).jobs ≡ n
    pub may_stop : (s.rounds r).stoppable ≡ b
    pub some : 2 ≤ n
    pub past : r ≤ s.round

  still_shown : (s s' : State) (r n : ℕ) → (s'.rounds r).jobs ≡ (s.rounds r).jobs → (s'.rounds r).stoppable ≡ (s.rounds r).stoppable → s.round ≤ s'.round
      → WasShown s r n → WasShown s' r n
  still_shown s s' r n jobs may le w = let a = w.past in record { jobs = jobs ∙ w.jobs; may_stop = may ∙ w.may_stop; some = w.some; past = omega arith }

  same_shown : (s s' : State) (r n : ℕ) → s'.rounds ≡ s.rounds → s.round ≤ s'.round → WasShown s r n → WasShown s' r n
  same_shown s s' r n e le w = still_shown s s' r n (ap (λ (f : ℕ → Round). (f r).jobs) e) (ap (λ (f : ℕ → Round). (f r).stoppable) e) le w

  put_shown : (s s' : State) (x : Round) (r n : ℕ) → s'.rounds ≡ put s.rounds s.round x → s'.round ≡ s.round → x.jobs ≡ (now s).jobs
      → x.stoppable ≡ (now s).stoppable → WasShown s r n → WasShown s' r n
  put_shown s s' x r n e same j b w = still_shown s s' r n
      (ap (λ (f : ℕ → Round). (f r).jobs) e ∙ put_all (λ i (z : Round). z.jobs ≡ (s.rounds i).jobs) s.rounds s.round x j (λ i n. refl) r)
      (ap (λ (f : ℕ → Round). (f r).stoppable) e ∙ put_all (λ i (z : Round). z.stoppable ≡ (s.rounds i).stoppable) s.rounds s.round x b (λ i n. refl) r)
      (omega arith) w

  -- another publish is of another round
  publish_shown : (s s' : State) (x : Round) → s'.rounds ≡ put s.rounds s.round x → s'.round ≡ s.round → (now s).jobs ≡ 0 → (r n : ℕ) → WasShown s r n
      → WasShown s' r n
  publish_shown s s' x e same none_yet r n w = let other : r ≢ s.round = (λ z. let a = ap (λ (i : ℕ). (s.rounds i).jobs) z in let b = w.jobs in
      let c = w.some in omega arith) in let same_record : s'.rounds r ≡ s.rounds r = ap (λ (f : ℕ → Round). f r) e ∙ put_else s.rounds s.round x r other in
      still_shown s s' r n (ap (λ (z : Round). z.jobs) same_record) (ap (λ (z : Round). z.stoppable) same_record) (omega arith) w

  keeps_shown : (s : State) → Sound s → (e : Event) → Allowed s e → (r n : ℕ) → WasShown s r n → WasShown (after s e) r n
  keeps_shown s h (Publish p m) ok r n w = publish_shown s (after s (Publish p m)) (record (now s) { jobs = m; stoppable = false }) refl refl
      (h.gate.hidden ok.2 (no_closer s h p ok.1)) r n w
  keeps_shown s h (PublishTry p m) ok r n w = publish_shown s (after s (PublishTry p m)) (record (now s) { jobs = m; stoppable = true }) refl refl
      (h.gate.hidden ok.2 (no_closer s h p ok.1)) r n w
  keeps_shown s h (Begin p k) ok r n w = put_shown s (after s (Begin p k)) (record (now s) { begun = (now s).begun ++ k ∷ [] }) r n refl refl refl refl w
  keeps_shown s h (Finish p) ok r n w = put_shown s (after s (Finish p)) (record (now s) {
    finished = (now s).finished ++ ended_by (party s p).running;
  }) r n refl refl refl refl w
  keeps_shown s h (Stop p) ok r n w = put_shown s (after s (Stop p)) (record (now s) {
    stopped = true;
    seen = put (now s).seen p true;
  }) r n refl refl refl refl w
  keeps_shown s h (See p) ok r n w = put_shown s (after s (See p)) (record (now s) { seen = put (now s).seen p true }) r n refl refl refl refl w
  keeps_shown s h (Exit p) ok r n w = let ps : List Party = put_party s.parties p (with_status Out (party s p)) in
      by_equal (members ps) 0 (λ b. WasShown (if b then next_round s ps s.closer else arrived s p ps) r n)
      (λ _. same_shown s (next_round s ps s.closer) r n refl (omega arith) w) (λ _. same_shown s (arrived s p ps) r n refl (omega arith) w)
  keeps_shown s h e ok r n w = same_shown s (after s e) r n refl (omega arith) w

  new_one : (s : State) (k r n : ℕ) (c : Bool) → 2 ≤ k → IsDeed (Showed r n b) (Showed s.round k c ∷ []) → WasShown (publish s c k) r n
  new_one s k r n c some d = let one : Showed s.round k c ≡ Showed r n b = ⊎_elim (λ z. z) (λ z. absurd z) d in let rr : s.round ≡ r = cc in
      let kn : k ≡ n = cc in let same : c ≡ b = cc in let x : Round = record (now s) { jobs = k; stoppable = c } in
      subst (λ (z : ℕ × ℕ). WasShown (publish s c k) z.0 z.1) (λ i. (rr i, kn i)) record {
        jobs = ap (λ (z : Round). z.jobs) (put_here s.rounds s.round x);
        may_stop = ap (λ (z : Round). z.stoppable) (put_here s.rounds s.round x) ∙ same;
        some = some;
        past = omega arith;
      }

  new_shown : (s : State) (e : Event) → Allowed s e → (r n : ℕ) → IsDeed (Showed r n b) (deed s e) → WasShown (after s e) r n
  new_shown s (Publish p k) ok r n d = new_one s k r n false ok.3 d
  new_shown s (PublishTry p k) ok r n d = new_one s k r n true ok.3 d
  new_shown s (Begin p k) ok r n d = let one : Began s.round k ≡ Showed r n b = ⊎_elim (λ z. z) (λ z. absurd z) d in absurd cc
  new_shown s (Finish p) ok r n d = absurd (no_end s.round (party s p).running d)
    where
      no_end : (q : ℕ) (o : Option ℕ) → IsDeed (Showed r n b) (ended_in q o) → ⊥
      no_end q None z = z
      no_end q (Some k) z = let one : Ended q k ≡ Showed r n b = ⊎_elim (λ y. y) (λ y. absurd y) z in cc
  new_shown s (Stop p) ok r n d = absurd (no_stop s.round (party s p).running d)
    where
      no_stop : (q : ℕ) (o : Option ℕ) → IsDeed (Showed r n b) (stopped_by q o) → ⊥
      no_stop q None z = z
      no_stop q (Some k) z = let one : Stopped q k ≡ Showed r n b = ⊎_elim (λ y. y) (λ y. absurd y) z in cc
  new_shown s e ok r n d = absurd d

  -- a round that a party has published stays so
  pub was_shown : (p : ℕ) (es : List Event) → IsRun es → (r n : ℕ) → IsDeed (Showed r n b) (deeds p es) → WasShown (state es) r n
  was_shown p [] ok r n d = absurd d
  was_shown p (e ∷ es) ok r n d = ⊎_elim (λ own. new_shown (state es) e ok.0 r n own)
      (λ old. keeps_shown (state es) (sound es ok.1) e ok.0 r n (was_shown p es ok.1 r n old)) (newest_deed (Showed r n b) p e es d)

-- and while nothing is published, and nobody closes, each of its numbers has finished
pub plain_finished : (s : State) → Sound s → s.published ≡ None → s.closer ≡ None → (r n k : ℕ) → WasShown false s r n → k < n
    → 0 < times k (s.rounds r).finished
plain_finished s h hid open_now r n k w lt = let none_yet = h.gate.hidden hid open_now in
    let other : r ≢ s.round = (λ z. let a = ap (λ (i : ℕ). (s.rounds i).jobs) z in let b = w.jobs in let c = w.some in omega arith) in
    let past : r < s.round = (let a = w.past in ⊎_elim (λ (z : r < s.round). z) (λ (z : s.round < r). absurd (omega arith)) (apart r s.round other)) in
    let c = h.ended r past in let going : (s.rounds r).stopped ≡ false = untrue (s.rounds r).stopped (λ e. let a = c.stops e in let b = w.may_stop in cc) in
    let full = c.full going k (let j = w.jobs in omega arith) in let same = c.same k in omega arith
