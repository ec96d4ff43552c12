-- What a run says of a party that takes no step in it, and of each of its events.
use Rattle.std.proofs.Common.{◌≡◌, ◌≢◌, ◌⊎◌, inl, inr, ⊎_elim, ℕ, ◌+◌, ◌%◌, ◌<◌, Bool, List, [], ◌∷◌, ◌++◌, sym, refl, ap, ◌∙◌, subst, arith, None, ne_eqb}
use Rattle.std.proofs.Common.{if◌then◌else◌}
use Rattle.spindle_parts.specs.State.{Out, In, Arrived, Party, Round, State, members, now, party}
use Rattle.spindle_parts.specs.Steps.{Allowed, after, arrived, Event, Begin, Exit, End}
use Rattle.spindle_parts.specs.Runs.{state, IsRun}
use Rattle.spindle_parts.specs.EveryRun.{AtEach, BeginsWithin, EndsCleared, NoneBy, sense_shown, Waits, IsWhole, EveryRun}
use Rattle.spindle_parts.proofs.Parties.{by_equal, moved, next_round, inside_le_members}
use Rattle.spindle_parts.proofs.Fates.{Complete}
use Rattle.spindle_parts.proofs.Soundness.{Sound, sound, run_once, alone_hidden}
use Rattle.spindle_parts.proofs.Frames.{Steady, Turned, frame}

-- the earlier part of a run is a run
pub earlier : (es rs : List Event) → IsRun (es ++ rs) → IsRun rs
earlier [] rs run = run
earlier (e ∷ es) rs run = earlier es rs run.1

-- a member that is in, and takes no step, stays in the same round
pub stays : (es rs : List Event) (p : ℕ) → IsRun (es ++ rs)
    → NoneBy p es → (party (state rs) p).status ≡ In → ((state (es ++ rs)).round ≡ (state rs).round) × ((party (state (es ++ rs)) p).status ≡ In)
stays [] rs p run none at_in = (refl, at_in)
stays (e ∷ es) rs p run none at_in = let r = stays es rs p run.1 none.1 at_in in let s : State = state (es ++ rs) in
    ⊎_elim (λ (f : Steady s (after s e) p). (f.round ∙ r.0, ap (λ (x : Party). x.status) f.same ∙ r.1)) (λ (f : Turned s (after s e) p). absurd (f.out r.1))
    (frame s (sound (es ++ rs) run.1) e p run.0 (λ i. none.0 (sym i)))

-- who has arrived waits, or its round has ended and it is in
abbrev Waiting : State → ℕ → State → Type 0
Waiting s p s' = ((s'.round ≡ s.round) × ((party s' p).status ≡ Arrived)) ⊎ ((s'.round ≡ s.round + 1) × ((party s' p).status ≡ In))

one_more : (s s' s'' : State) (p : ℕ) → Waiting s p s' → Steady s' s'' p ⊎ Turned s' s'' p → Waiting s p s''
one_more s s' s'' p (inl a) (inl g) = inl (g.round ∙ a.0, ap (λ (x : Party). x.status) g.same ∙ a.1)
one_more s s' s'' p (inr a) (inl g) = inr (g.round ∙ a.0, ap (λ (x : Party). x.status) g.same ∙ a.1)
one_more s s' s'' p (inl a) (inr g) = let same = ap (λ (x : Party). x.status) g.same in let n = g.round in let o = a.0 in let i = a.1 in inr (omega arith, cc)
one_more s s' s'' p (inr a) (inr g) = absurd (g.out a.1)

waiting : (es rs : List Event) (p : ℕ) → IsRun (es ++ rs) → NoneBy p es → (party (state rs) p).status ≡ Arrived → Waiting (state rs) p (state (es ++ rs))
waiting [] rs p run none at = inl (refl, at)
waiting (e ∷ es) rs p run none at = one_more (state rs) (state (es ++ rs)) (after (state (es ++ rs)) e) p
    (waiting es rs p run.1 none.1 at) (frame (state (es ++ rs)) (sound (es ++ rs) run.1) e p run.0 (λ i. none.0 (sym i)))

-- the word's highest bit is the lowest of the round
top_bit : (s : State) → Sound s → sense_shown s ≡ s.round % 2
top_bit s h = let few = h.gate.few in let le = inside_le_members s.parties in omega arith

seen_end : (s s' : State) (p : ℕ) → Sound s' → Waiting s p s' → Waits s s' p
seen_end s s' p h (inl a) = let bit = top_bit s' h in let o = a.0 in record { next = inl a; sees = ((λ e. omega arith), (λ lt. absurd (omega arith))) }
seen_end s s' p h (inr a) = let bit = top_bit s' h in let o = a.0 in record { next = inr a; sees = ((λ _. omega arith), (λ _. bit ∙ ap (λ (n : ℕ). n % 2) o)) }

-- each ended round is whole
pub is_whole : (r : Round) → Complete r → IsWhole r
is_whole r c = record { once = c.once; finished = c.same; below = c.below; all = c.full; stops = c.stops }

-- what holds at each event of a run, where it holds of each sound state
at_each : (P : List Event → Event → Type 0)
    → ((es : List Event) (e : Event) → Sound (state es) → Allowed (state es) e → P es e) → (es : List Event) → IsRun es → AtEach P es
at_each P each [] run = tt
at_each P each (e ∷ es) run = (each es e (sound es run.1) run.0, at_each P each es run.1)

within : (s : State) (h : Sound s) (p k : ℕ) → Allowed s (Begin p k) → (k < (now s).jobs) × ((party s p).status ≡ In)
within s h p k ok = let held = (h.work.fits p).held k ok.3 in (h.work.below k (λ o. let a = held in cc), ok.0)

pub begins_within : (es : List Event) → IsRun es → AtEach BeginsWithin es
begins_within = at_each BeginsWithin (λ es e h ok p k is. within (state es) h p k (subst (Allowed (state es)) is ok))

-- an exit that ends the round
exit_cleared : (s : State) (h : Sound s) (p : ℕ) → Allowed s (Exit p) → (after s (Exit p)).round ≢ s.round → s.published ≡ None
exit_cleared s h p ok turns = let ps : List Party = moved s p Out in by_equal (members ps) 0 (alone_hidden s h p ok.0 ok.2)
    (λ n. absurd (turns (ap (λ (b : Bool). (if b then next_round s ps s.closer else arrived s p ps).round) (ne_eqb (members ps) 0 n))))

cleared_at : (s : State) (h : Sound s) (e : Event) → Allowed s e → (after s e).round ≢ s.round → s.published ≡ None
cleared_at s h (Exit p) ok turns = exit_cleared s h p ok turns
cleared_at s h (End p) ok turns = ok.1
cleared_at s h e ok turns = absurd (turns refl)

pub ends_cleared : (es : List Event) → IsRun es → AtEach EndsCleared es
ends_cleared = at_each EndsCleared (λ es e h ok. cleared_at (state es) h e ok)

-- the laws of every run
pub lawful : EveryRun
lawful es run = record {
  once = run_once es run;
  begins = begins_within es run;
  whole = λ q lt. is_whole ((state es).rounds q) ((sound es run).ended q lt);
  cleared = ends_cleared es run;
  waits = λ later p r at. seen_end (state es) (state (later ++ es)) p (sound (later ++ es) r.run) (waiting later es p r.run r.none at);
  keeps = λ later p r at. (stays later es p r.run r.none at).0;
}
