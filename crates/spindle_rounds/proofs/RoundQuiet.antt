-- Events at which no number begins, finishes or is published.
use Rattle.std.proofs.Common.{◌≡◌, ◌≢◌, inr, ℕ, ◌<◌, true, List, [], ◌∷◌, ◌++◌, sym, refl, ap, ◌∙◌, subst, arith, Some, if◌then◌else◌}
use Rattle.spindle_parts.specs.State.{State, Out, Party, Round, put, put_party, members, now, party, times, inside, change_round}
use Rattle.spindle_parts.specs.Steps.{Event, Publish, PublishTry, Begin, Finish, Stop, See, Exit, Clear, End, with_status, Allowed, after, arrived}
use Rattle.spindle_parts.specs.Runs.{IsRun, state}
use Rattle.spindle_parts.proofs.Parties.{next_round, put_all}
use Rattle.spindle_parts.proofs.Fates.{Fate, Open, Held, Ran, Done, started, over, none_begun}
use Rattle.spindle_parts.proofs.Soundness.{Sound, sound, none_in, no_closer, alone_hidden}
use Rattle.spindle_rounds.specs.RoundSlots.{Quiet}
use Rattle.spindle_rounds.proofs.RoundWords.{by_equal}

abbrev pub IsQuiet : Event → Type 0
IsQuiet (Publish p n) = ⊥
IsQuiet (PublishTry p n) = ⊥
IsQuiet (Begin p k) = ⊥
IsQuiet (Finish p) = ⊥
IsQuiet _ = Unit {0}

abbrev pub AllQuiet : List Event → Type 0
AllQuiet [] = Unit {0}
AllQuiet (e ∷ es) = IsQuiet e × AllQuiet es

-- a running number's round goes on, since its party is in
runs_in : (s : State) → Sound s → (k : ℕ) → 0 < times k (now s).begun → times k (now s).finished ≡ 0 → inside s.parties ≢ 0
runs_in s h k b f none = let a = h.work.begun k in let c = h.work.finished k in go (h.fate k) refl (subst (λ (z : ℕ). 0 < z) a b) (sym c ∙ f)
  where
    go : (x : Fate) → h.fate k ≡ x → 0 < started x → over x ≡ 0 → ⊥
    go Open e lt z = omega arith
    go (Held p) e lt z = omega arith
    go (Ran p) e lt z = none_in s.parties none p ((h.work.fits p).within k (inr e))
    go Done e lt z = omega arith

-- the round's jobs stay
same : (s s' : State) → s'.rounds ≡ s.rounds → s'.round ≡ s.round → ((n : ℕ) → s'.published ≡ Some n → s.published ≡ Some n) → Quiet s s'
same s s' e r p = record {
  begun = λ q k. ap (λ (f : ℕ → Round). times k (f q).begun) e;
  finished = λ q k. ap (λ (f : ℕ → Round). times k (f q).finished) e;
  jobs = λ q. ap (λ (f : ℕ → Round). (f q).jobs) e;
  published = λ n z. (p n z, r);
  running = λ _ _ _. r;
}

-- the next round begins, while nothing is published and nothing runs
later : (s s' : State) → s'.rounds ≡ s.rounds → ((n : ℕ) → s'.published ≡ Some n → ⊥)
    → ((k : ℕ) → 0 < times k (now s).begun → times k (now s).finished ≡ 0 → ⊥) → Quiet s s'
later s s' e hidden none_runs = record {
  begun = λ q k. ap (λ (f : ℕ → Round). times k (f q).begun) e;
  finished = λ q k. ap (λ (f : ℕ → Round). times k (f q).finished) e;
  jobs = λ q. ap (λ (f : ℕ → Round). (f q).jobs) e;
  published = λ n z. absurd (hidden n z);
  running = λ k b f. absurd (none_runs k b f);
}

-- the round's record becomes r, with the same numbers
changed : (s : State) (r : Round) → ((k : ℕ) → times k r.begun ≡ times k (now s).begun) → ((k : ℕ) → times k r.finished ≡ times k (now s).finished) → r.jobs ≡
    (now s).jobs → Quiet s (change_round s r)
changed s r b f j = record {
  begun = λ q k. put_all (λ i x. times k x.begun ≡ times k (s.rounds i).begun) s.rounds s.round r (b k) (λ i n. refl) q;
  finished = λ q k. put_all (λ i x. times k x.finished ≡ times k (s.rounds i).finished) s.rounds s.round r (f k) (λ i n. refl) q;
  jobs = λ q. put_all (λ i x. x.jobs ≡ (s.rounds i).jobs) s.rounds s.round r j (λ i n. refl) q;
  published = λ n z. (z, refl);
  running = λ _ _ _. refl;
}

pub quiet : (s : State) → Sound s → (e : Event) → IsQuiet e → Allowed s e → Quiet s (after s e)
quiet s h (Publish p n) q ok = absurd q
quiet s h (PublishTry p n) q ok = absurd q
quiet s h (Begin p k) q ok = absurd q
quiet s h (Finish p) q ok = absurd q
quiet s h (Stop p) q ok = changed s (record (now s) { stopped = true; seen = put (now s).seen p true }) (λ k. refl) (λ k. refl) refl
quiet s h (See p) q ok = changed s (record (now s) { seen = put (now s).seen p true }) (λ k. refl) (λ k. refl) refl
quiet s h (Exit p) q ok = let ps : List Party = put_party s.parties p (with_status Out (party s p)) in
    by_equal (members ps) 0 (λ b. Quiet s (if b then next_round s ps s.closer else arrived s p ps))
    (λ e. let hid = alone_hidden s h p ok.0 ok.2 e in let all = none_begun h.fate (now s) s.parties h.work (h.gate.hidden hid (no_closer s h p ok.0)) in
    later s (next_round s ps s.closer) refl (λ n z. cc) (λ k b f. let a = h.work.begun k in let z = ap started (all k) in omega arith))
    (λ n. same s (arrived s p ps) refl refl (λ n z. z))
quiet s h (Clear p) q ok = same s (after s (Clear p)) refl refl (λ n z. absurd cc)
quiet s h (End p) q ok = later s (after s (End p)) refl (λ n z. let a = ok.1 in cc) (λ k b f. runs_in s h k b f (h.gate.closing p ok.0).0)
quiet s h e q ok = same s (after s e) refl refl (λ n z. z)

chains : (a b c : State) → Quiet a b → Quiet b c → Quiet a c
chains a b c f g = record {
  begun = λ r k. g.begun r k ∙ f.begun r k;
  finished = λ r k. g.finished r k ∙ f.finished r k;
  jobs = λ r. g.jobs r ∙ f.jobs r;
  published = λ n e. let x = g.published n e in let y = f.published n x.0 in (y.0, x.1 ∙ y.1);
  running = λ k x y. let r = f.running k x y in let e₀ = f.begun a.round k in let e₁ = f.finished a.round k in
      g.running k (subst (λ (z : ℕ). 0 < times k (b.rounds z).begun) (sym r) (subst (λ (z : ℕ). 0 < z) (sym e₀) x))
      (ap (λ (z : ℕ). times k (b.rounds z).finished) r ∙ (e₁ ∙ y)) ∙ r;
}

-- no event
pub unchanged : (s : State) → Quiet s s
unchanged s = same s s refl refl (λ n z. z)

pub quiet_run : (new run : List Event) → AllQuiet new → IsRun (new ++ run) → Quiet (state run) (state (new ++ run))
quiet_run [] run all ok = unchanged (state run)
quiet_run (e ∷ es) run all ok = chains (state run) (state (es ++ run)) (state (e ∷ (es ++ run))) (quiet_run es run all.1 ok.1)
    (quiet (state (es ++ run)) (sound (es ++ run) ok.1) e all.0 ok.0)
