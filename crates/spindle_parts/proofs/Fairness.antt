-- The machine's tests of a step all fail exactly where the definitions allow it.
use Rattle.std.proofs.Common.{◌≡◌, ◌≢◌, ◌⊎◌, inl, inr, ⊎_elim, ℕ, ◌+◌, ◌*◌, ◌-◌, ◌<◌, ◌≤◌, Bool, true, false, not, ◌&&◌, eq-eqb, ne_eqb, ltb as nat_lt, length}
use Rattle.std.proofs.Common.{sum, sym, refl, ap, ◌∙◌, arith, Option, Some, None, is_some, ◌==◌}
use Rattle.std.proofs.lemmas.Bool.{lt-ltb, ltb-true, le-ltb, ltb-false}
use Rattle.spindle_parts.specs.State.{Status, In, State, now, party, Free}
use Rattle.spindle_parts.specs.Steps.{IsPublishable}
use Rattle.spindle_parts.specs.Machine.{Configuration, is_out, is_inside, is_waiting, is_party, status, is_running, counter, own, left, tests, claim_tests}
use Rattle.spindle_parts.specs.Machine.{publish_tests}
use Rattle.spindle_parts.specs.EverySchedule.{Shows, MayBegin, IsFair, IsInRange}
use Rattle.spindle_parts.specs.declared.steps.Step.{Step}
use Rattle.spindle_parts.specs.declared.steps.Step.TheVariants.{Join, Publish, PublishTry, Claim, Rest, Finish, Stop, See, Arrive, Leave, Exit, Clear, End}
use Rattle.spindle_parts.proofs.Soundness.{Sound, no_closer, no_jobs}
use Rattle.spindle_parts.proofs.Shares.{none_stands, some_part}
use Rattle.spindle_parts.proofs.Tests.{AllFail, not_false, not_true, out_by, in_by, waiting_by, none_by, some_by, is_some_of, party_by, is_party_of, equal_by}
use Rattle.spindle_parts.proofs.Tests.{differ_by, and_left, and_right, unless}
use Rattle.spindle_parts.proofs.Following.{tally}
use Rattle.spindle_parts.proofs.Claiming.{claimed_left, rested_left}
use Rattle.spindle_parts.proofs.Parties.{by_order}

second_false : (a b : Bool) → (a && b) ≡ false → a ≡ true → b ≡ false
second_false true b e t = e
second_false false b e t = absurd cc

module _ {m : Configuration} {s : State} (a : Shows m s) (h : Sound s) (some : 0 < length m.counters) (p : ℕ) where
  at_in : not (is_inside (status m p)) ≡ false → (party s p).status ≡ In
  at_in f = sym (a.status p) ∙ in_by (status m p) (not_false (is_inside (status m p)) f)

  in_passes : (party s p).status ≡ In → not (is_inside (status m p)) ≡ false
  in_passes e = ap (λ (t : Status). not (is_inside t)) (a.status p ∙ e)

  idle : is_running m p ≡ false → (party s p).running ≡ None
  idle f = sym (a.running p) ∙ none_by (m.seat p).running f

  idle_passes : (party s p).running ≡ None → is_running m p ≡ false
  idle_passes e = ap is_some (a.running p ∙ e)

  runs : not (is_running m p) ≡ false → (k : ℕ) × ((party s p).running ≡ Some k)
  runs f = let x = some_by (m.seat p).running (not_false (is_running m p) f) in (x.0, sym (a.running p) ∙ x.1)

  runs_passes : (k : ℕ) × ((party s p).running ≡ Some k) → not (is_running m p) ≡ false
  runs_passes x = ap (λ (o : Option ℕ). not (is_some o)) (a.running p ∙ x.1)

  hidden : is_some m.published ≡ false → s.published ≡ None
  hidden f = sym a.published ∙ none_by m.published f

  hidden_passes : s.published ≡ None → is_some m.published ≡ false
  hidden_passes e = ap is_some (a.published ∙ e)

  is_shown : not (is_some m.published) ≡ false → s.published ≢ None
  is_shown f e = let b = not_false (is_some m.published) f in let c = hidden_passes e in cc

  shown_passes : s.published ≢ None → not (is_some m.published) ≡ false
  shown_passes n = not_true (is_some m.published) (is_some_of m.published (λ e. n (sym a.published ∙ e)))

  unclosed : is_some m.closer ≡ false → s.closer ≡ None
  unclosed f = sym a.closer ∙ none_by m.closer f

  unclosed_passes : s.closer ≡ None → is_some m.closer ≡ false
  unclosed_passes e = ap is_some (a.closer ∙ e)

  closer_is : not (is_party m.closer p) ≡ false → s.closer ≡ Some p
  closer_is f = sym a.closer ∙ party_by m.closer p (not_false (is_party m.closer p) f)

  closer_passes : s.closer ≡ Some p → not (is_party m.closer p) ≡ false
  closer_passes e = not_true (is_party m.closer p) (is_party_of m.closer p (a.closer ∙ e))

  stays : ((p == 0) && is_some m.published) ≡ false → p ≡ 0 → s.published ≡ None
  stays f e = hidden (second_false (p == 0) (is_some m.published) f (eq-eqb p 0 e))

  stays_passes : (p ≡ 0 → s.published ≡ None) → ((p == 0) && is_some m.published) ≡ false
  stays_passes free = unless (p == 0) (is_some m.published) (λ t. hidden_passes (free (equal_by p 0 t)))

  may : AllFail (claim_tests m p) → MayBegin s p
  may f = record { published = is_shown f.1.0; is_in = at_in f.0; idle = idle f.1.1.0; unseen = sym (a.seen p) ∙ f.1.1.1.0 }

  -- where nothing is left, nothing is free
  nothing_free : (n : ℕ) → s.published ≡ Some n → sum m.counters + m.remainder ≡ 0 → (k : ℕ) → Free s k → ⊥
  nothing_free n e z k free = none_stands (length m.counters) (own m n) m.counters m.remainder n k refl z ((tally a n e).unbegun k free.0 free.1)

  -- where something is left, something is free
  some_free : (n : ℕ) → s.published ≡ Some n → 0 < sum m.counters + m.remainder → (k : ℕ) × Free s k
  some_free n e lt = by_order 1 m.remainder
      (λ pos. let f = rested_left some (tally a n e) (omega arith) in
      (n - m.remainder, (f.0, f.1, λ q. a.untaken q (n - m.remainder))))
      (λ no. let x = some_part m.counters (omega arith) in
      let f = claimed_left some (tally a n e) x.0 x.1 x.2 in
      (own m n * x.0 + own m n - counter m x.0, (f.0, f.1, λ q. a.untaken q (own m n * x.0 + own m n - counter m x.0))))

  abbrev Used : Type 0
  Used = s.published ≢ None → ((k : ℕ) → Free s k → ⊥) ⊎ ((now s).stopped ≡ true)

  -- the last test of an arrival
  used : (b : Bool) → m.stopped ≡ b → (is_some m.published && not b && nat_lt 0 (left m)) ≡ false → Used
  used true st f shown = inr (sym a.stopped ∙ st)
  used false st f shown = let x = some_by m.published (is_some_of m.published (λ e. shown (sym a.published ∙ e))) in
      inl (nothing_free x.0 (sym a.published ∙ x.1)
      (let z = ltb-false 0 (left m) (last (is_some m.published) (nat_lt 0 (left m)) f (ap is_some x.1)) in omega arith))
    where
      last : (y z : Bool) → (y && true && z) ≡ false → y ≡ true → z ≡ false
      last true z e t = e
      last false z e t = absurd cc

  used_passes : Used → (is_some m.published && not m.stopped && nat_lt 0 (left m)) ≡ false
  used_passes ok = unless (is_some m.published && not m.stopped) (nat_lt 0 (left m)) (λ t. let shown = and_left (is_some m.published) (not m.stopped) t in
      let going = and_right (is_some m.published) (not m.stopped) t in let x = some_by m.published shown in
      le-ltb 0 (left m) (by_order (left m) 0 (λ le. le) (λ no. let y = some_free x.0 (sym a.published ∙ x.1) (omega arith) in
      absurd (⊎_elim (λ (none : (k : ℕ) → Free s k → ⊥). none y.0 y.1)
      (λ (st : (now s).stopped ≡ true). let z = a.stopped ∙ st in let w = ap not z in cc) (ok (λ e. let z = sym x.1 ∙ (a.published ∙ e) in cc))))))

  -- a stopped round is published to who is in
  stopped_shown : (party s p).status ≡ In → (now s).stopped ≡ true → s.published ≢ None
  stopped_shown e st z = let j = no_jobs s h p z (no_closer s h p e) in let w = h.work.stops st in let w₁ = w.1 in absurd (omega arith)

  publish_fair : (n : ℕ) → n ≤ 4294967295 → AllFail (publish_tests m p n) → IsPublishable s p n
  publish_fair n le f = (equal_by p 0 (not_false (p == 0) f.0), at_in f.1.0, hidden f.1.1.0, ltb-false n 2 f.1.1.1.0, le)

  publish_fails : (n : ℕ) → IsPublishable s p n → AllFail (publish_tests m p n)
  publish_fails n ok = (not_true (p == 0) (eq-eqb p 0 ok.0), (in_passes ok.1, (hidden_passes ok.2, (le-ltb n 2 ok.3, tt))))

  above : (k : ℕ) → (k == 0) ≡ false → 0 < k
  above k f = let n = differ_by k 0 f in omega arith

  above_passes : (k : ℕ) → 0 < k → (k == 0) ≡ false
  above_passes k lt = ne_eqb k 0 (λ e. omega arith)

module _ {m : Configuration} {s : State} (a : Shows m s) (h : Sound s) (some : 0 < length m.counters) where
  -- where no test refuses the step it is fair
  pub fair : (granted : Bool) (e : Step) → IsInRange e → AllFail (tests m granted e) → IsFair m s e
  fair g (Join p) range f = let n = differ_by m.members 32767 f.1.0 in let few = h.gate.few in let i = a.members in
      (sym (a.status p) ∙ out_by (status m p) (not_false (is_out (status m p)) f.0), unclosed a h some p f.1.1.0, omega arith)
  fair g (Publish p n) range f = publish_fair a h some p n range f
  fair g (PublishTry p n) range f = publish_fair a h some p n range f
  fair g (Claim p t) range f = let y = may a h some p (f.0, (f.1.0, (f.1.1.0, (f.1.1.1.0, tt)))) in
      (y, ltb-true t (length m.counters) (not_false _ f.1.1.1.1.0), above a h some p (counter m t) f.1.1.1.1.1.0)
  fair g (Rest p) range f = (may a h some p (f.0, (f.1.0, (f.1.1.0, (f.1.1.1.0, tt)))), above a h some p m.remainder f.1.1.1.1.0)
  fair g (Finish p) range f = runs a h some p f.0
  fair g (Stop p) range f = (runs a h some p f.0, sym a.stoppable ∙ not_false m.stoppable f.1.0)
  fair g (See p) range f = (at_in a h some p f.0, sym a.stopped ∙ not_false m.stopped f.1.1.0)
  fair g (Arrive p) range f = (at_in a h some p f.0, (a.untaken p, idle a h some p f.1.0), used a h some p m.stopped refl f.1.1.0)
  fair g (Leave p) range f = let waits = waiting_by (status m p) (not_false (is_waiting (status m p)) f.0) in
      (sym (a.status p) ∙ waits, unclosed a h some p f.1.0, stays a h some p f.1.1.0)
  fair g (Exit p) range f = (at_in a h some p f.0, (a.untaken p, idle a h some p f.1.0), stays a h some p f.1.1.0)
  fair g (Clear p) range f = closer_is a h some p f.0
  fair g (End p) range f = (closer_is a h some p f.0, hidden a h some p f.1.0)

  claim_passes : (p : ℕ) → MayBegin s p → AllFail (claim_tests m p)
  claim_passes p y = (in_passes a h some p y.is_in, (shown_passes a h some p y.published, (idle_passes a h some p y.idle, (a.seen p ∙ y.unseen, tt))))

  -- no test refuses a fair step
  pub fails : (e : Step) → IsFair m s e → AllFail (tests m true e)
  fails (Join p) ok = let few = ne_eqb m.members 32767 (λ e. let lt = ok.2 in let i = a.members in omega arith) in
      (ap (λ (t : Status). not (is_out t)) (a.status p ∙ ok.0), (few, (unclosed_passes a h some p ok.1, (refl, tt))))
  fails (Publish p n) ok = publish_fails a h some p n ok
  fails (PublishTry p n) ok = publish_fails a h some p n ok
  fails (Claim p t) ok = let y = claim_passes p ok.0 in
      (y.0, (y.1.0, (y.1.1.0, (y.1.1.1.0, (not_true _ (lt-ltb t (length m.counters) ok.1), (above_passes a h some p (counter m t) ok.2, tt))))))
  fails (Rest p) ok = let y = claim_passes p ok.0 in (y.0, (y.1.0, (y.1.1.0, (y.1.1.1.0, (above_passes a h some p m.remainder ok.1, tt)))))
  fails (Finish p) ok = (runs_passes a h some p ok, tt)
  fails (Stop p) ok = (runs_passes a h some p ok.0, (not_true m.stoppable (a.stoppable ∙ ok.1), tt))
  fails (See p) ok = (in_passes a h some p ok.0, (shown_passes a h some p (stopped_shown a h some p ok.0 ok.1), (not_true m.stopped (a.stopped ∙ ok.1), tt)))
  fails (Arrive p) ok = (in_passes a h some p ok.0, (idle_passes a h some p ok.1.1, (used_passes a h some p ok.2, tt)))
  fails (Leave p) ok = (ap (λ (t : Status). not (is_waiting t)) (a.status p ∙ ok.0), (unclosed_passes a h some p ok.1, (stays_passes a h some p ok.2, tt)))
  fails (Exit p) ok = (in_passes a h some p ok.0, (idle_passes a h some p ok.1.1, (stays_passes a h some p ok.2, tt)))
  fails (Clear p) ok = (closer_passes a h some p ok, tt)
  fails (End p) ok = (closer_passes a h some p ok.0, (hidden_passes a h some p ok.1, tt))
