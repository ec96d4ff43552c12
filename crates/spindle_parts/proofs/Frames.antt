-- What an event of one party leaves of another.
use Rattle.std.proofs.Common.{◌≡◌, ◌≢◌, ◌⊎◌, inl, inr, ⊎_elim, ℕ, suc, ◌+◌, ◌<◌, Bool, true, false, ◌||◌, List, [], ◌∷◌, ◌++◌, sym, refl, ap, ◌∙◌, subst, arith}
use Rattle.std.proofs.Common.{Option, Some, None, if◌then◌else◌, ◌==◌}
use Rattle.spindle_parts.specs.State.{Status, Out, In, Arrived, Party, Round, State, put, no_set, party_of, put_party, times, weight_member, inside, members}
use Rattle.spindle_parts.specs.State.{waking, now, party, Free}
use Rattle.spindle_parts.specs.Steps.{with_status, IsPublishable, Allowed, after, arrived, left, publish, ended_by, by, Event, Join, Publish, PublishTry, Take}
use Rattle.spindle_parts.specs.Steps.{Begin, Finish, Stop, See, PutBack, Arrive, Leave, Exit, Clear, End}
use Rattle.spindle_parts.proofs.Parties.{by_equal, by_zero, moved, with_parties, next_round, put_here, put_else, look_here, look_else, total_at, look_wake}
use Rattle.spindle_parts.proofs.Parties.{times_same, times_snoc}
use Rattle.spindle_parts.proofs.Soundness.{Sound, no_closer, closers, none_in, out_of, alone_hidden}

-- what is free afterwards was free
abbrev pub Frees : State → State → Type 0
Frees s s' = (k : ℕ) → Free s' k → Free s k

-- while a number is published no number becomes free, unless the round is stopped
abbrev pub Lessens : State → State → Type 0
Lessens s s' = (s.published ≢ None → Frees s s') ⊎ ((now s').stopped ≡ true)

-- the round goes on, and the party q is as it was
pub record Steady (s s' : State) (q : ℕ) : Type 0 where
  pub round : s'.round ≡ s.round
  pub same : party s' q ≡ party s q
  pub closer : (s.closer ≡ Some q → s'.closer ≡ Some q) × (s.closer ≢ Some q → s'.closer ≢ Some q)
  pub published : (n : ℕ) → (party s q).status ≡ In → s.published ≡ Some n → s'.published ≡ Some n
  pub hidden : (q ≡ 0) ⊎ (s.closer ≡ Some q) → s.published ≡ None → s'.published ≡ None
  pub frees : Lessens s s'
  pub stops : (now s).stopped ≡ true → (now s').stopped ≡ true
  pub seen : (now s').seen q ≡ (now s).seen q
  pub may_stop : s.published ≢ None → (now s').stoppable ≡ (now s).stoppable

-- the round ends, and the party q, which was not in, is in if it is a member
pub record Turned (s s' : State) (q : ℕ) : Type 0 where
  pub round : s'.round ≡ suc s.round
  pub same : party s' q ≡ with_status (waking (party s q).status) (party s q)
  pub out : (party s q).status ≢ In
  pub closer : s'.closer ≢ Some q
  pub before : s.closer ≢ Some q
  pub hidden : s'.published ≡ None
  pub seen : (now s').seen q ≡ false

abbrev pub Frame : State → State → ℕ → Type 0
Frame s s' q = Steady s s' q ⊎ Turned s s' q

steady : {s s' : State} {q : ℕ} → s'.round ≡ s.round → party s' q ≡ party s q
    → (s.closer ≡ Some q → s'.closer ≡ Some q) × (s.closer ≢ Some q → s'.closer ≢ Some q)
    → ((n : ℕ) → (party s q).status ≡ In → s.published ≡ Some n → s'.published ≡ Some n)
    → ((q ≡ 0) ⊎ (s.closer ≡ Some q) → s.published ≡ None → s'.published ≡ None) → Lessens s s' → ((now s).stopped ≡ true → (now s').stopped ≡ true)
    → (now s').seen q ≡ (now s).seen q → (s.published ≢ None → (now s').stoppable ≡ (now s).stoppable) → Frame s s' q
steady round same closer shown hidden frees stops seen may_stop = inl
    record { round = round; same = same; closer = closer; published = shown; hidden = hidden; frees = frees; stops = stops; seen = seen; may_stop = may_stop }

module _ (s : State) (h : Sound s) (p q : ℕ) (other : q ≢ p) where
  -- the numbers that each party has, where p has become y
  taken_put : (y : Party) (k : ℕ) → (y.taken k ≡ false → (party s p).taken k ≡ false)
      → ((a : ℕ) → (party_of (put_party s.parties p y) a).taken k ≡ false) → (a : ℕ) → (party s a).taken k ≡ false
  taken_put y k mine all a = by_equal a p
      (λ e. subst (λ (z : ℕ). (party s z).taken k ≡ false) (sym e) (mine (sym (ap (λ (z : Party). z.taken k) (look_here s.parties p y)) ∙ all p)))
      (λ n. sym (ap (λ (z : Party). z.taken k) (look_else s.parties p y a n)) ∙ all a)

  -- the party p becomes y, in the same round
  changed : (y : Party) (c : Option ℕ)
      → (s.closer ≡ Some q → c ≡ Some q) × (s.closer ≢ Some q → c ≢ Some q) → Lessens s (with_parties s (put_party s.parties p y) c s.rounds)
      → Frame s (with_parties s (put_party s.parties p y) c s.rounds) q
  changed y c cl used = steady refl (look_else s.parties p y q other) cl (λ n _ e. e) (λ _ e. e) used (λ e. e) refl (λ _. refl)

  -- a new status and no more
  restatus : (t : Status) (c : Option ℕ)
      → (s.closer ≡ Some q → c ≡ Some q) × (s.closer ≢ Some q → c ≢ Some q) → Frame s (with_parties s (moved s p t) c s.rounds) q
  restatus t c cl = changed (with_status t (party s p)) c cl (inl (λ _ k f. (f.0, f.1, taken_put (with_status t (party s p)) k (λ e. e) f.2)))

  -- the round's record becomes r too
  reworked : (ps : List Party) (r : Round) → party_of ps q ≡ party s q → r.seen q ≡ (now s).seen q
      → r.stoppable ≡ (now s).stoppable → ((now s).stopped ≡ true → r.stopped ≡ true) → Lessens s (with_parties s ps s.closer (put s.rounds s.round r))
      → Frame s (with_parties s ps s.closer (put s.rounds s.round r)) q
  reworked ps r same seen may_stop stopped used = let is = put_here s.rounds s.round r in
      steady refl same ((λ e. e), (λ e. e)) (λ n _ e. e) (λ _ e. e) used (λ e. ap (λ (z : Round). z.stopped) is ∙ stopped e)
      (ap (λ (z : Round). z.seen q) is ∙ seen) (λ _. ap (λ (z : Round). z.stoppable) is ∙ may_stop)

  -- nobody but p can have become the closer
  new_closer : (ps : List Party) → (party s p).status ≡ In → let c : Option ℕ = if inside ps == 0 then Some p else s.closer in
      (s.closer ≡ Some q → c ≡ Some q) × (s.closer ≢ Some q → c ≢ Some q)
  new_closer ps at_in = let z = no_closer s h p at_in in
      closers (λ c. (s.closer ≡ Some q → c ≡ Some q) × (s.closer ≢ Some q → c ≢ Some q)) (inside ps) p s.closer
      (λ _. ((λ e. absurd cc), (λ _ e. let a : p ≡ q = cc in other (sym a)))) (λ _. ((λ e. e), (λ e. e)))

  -- the same, where what is free afterwards was free
  reworked_free : (ps : List Party) (r : Round)
      → party_of ps q ≡ party s q → r.seen q ≡ (now s).seen q → r.stoppable ≡ (now s).stoppable → ((now s).stopped ≡ true → r.stopped ≡ true)
      → ((k : ℕ) → (k < r.jobs) × (times k r.begun ≡ 0) × ((a : ℕ) → (party_of ps a).taken k ≡ false) → Free s k)
      → Frame s (with_parties s ps s.closer (put s.rounds s.round r)) q
  reworked_free ps r same seen may_stop stopped frees = let is = put_here s.rounds s.round r in
      reworked ps r same seen may_stop stopped
      (inl (λ _ k f. frees k (subst (λ (z : Round). (k < z.jobs) × (times k z.begun ≡ 0) × ((a : ℕ) → (party_of ps a).taken k ≡ false)) is f)))

  publishing : (b : Bool) (n : ℕ) → IsPublishable s p n → Frame s (publish s b n) q
  publishing b n ok = let is = put_here s.rounds s.round (record (now s) { jobs = n; stoppable = b }) in
      steady refl refl ((λ e. e), (λ e. e)) (λ m _ e. let z = ok.2 in absurd cc)
      (⊎_elim (λ e. absurd (other (e ∙ sym ok.0))) (λ e. let z = no_closer s h p ok.1 in absurd cc)) (inl (λ some. absurd (some ok.2)))
      (λ e. ap (λ (z : Round). z.stopped) is ∙ e) (ap (λ (z : Round). z.seen q) is) (λ shown. absurd (shown ok.2))

  exiting : (party s p).status ≡ In → (p ≡ 0 → s.published ≡ None) → Frame s (left s p (moved s p Out)) q
  exiting at_in fine = let ps : List Party = moved s p Out in let on : State = next_round s ps s.closer in let z = no_closer s h p at_in in
      by_zero (λ b. Frame s (if b then on else arrived s p ps) q) (members ps)
      (λ e. let look = look_else s.parties p (with_status Out (party s p)) q other in let gone : (party s q).status ≡ Out =
      sym (ap (λ (x : Party). x.status) look) ∙ out_of (party_of ps q).status (let a = total_at weight_member refl ps q in omega arith) in inr record {
        round = omega arith;
        same = look ∙ asleep (party s q) gone;
        out = λ i. cc;
        closer = λ i. cc;
        before = λ i. cc;
        hidden = alone_hidden s h p at_in fine e;
        seen = ap (λ (r : Round). r.seen q) (h.later (s.round + 1) (omega arith));
      })
      (λ _. restatus Out _ (new_closer ps at_in))
    where
      asleep : (x : Party) → x.status ≡ Out → x ≡ with_status (waking x.status) x
      asleep x e i = with_status ((e ∙ sym (ap waking e)) i) x

and_left : (a b : Bool) → (a || b) ≡ false → a ≡ false
and_left true b e = absurd cc
and_left false b e = refl

pub frame : (s : State) (h : Sound s) (e : Event) (q : ℕ) → Allowed s e → q ≢ by e → Frame s (after s e) q
frame s h (Join p) q ok other = restatus s h p q other In s.closer ((λ e. e), (λ e. e))
frame s h (Publish p n) q ok other = publishing s h p q other false n ok
frame s h (PublishTry p n) q ok other = publishing s h p q other true n ok
frame s h (Take p some) q ok other = let y : Party = record (party s p) { taken = λ k. (party s p).taken k || some k } in
    changed s h p q other y s.closer ((λ e. e), (λ e. e))
    (inl (λ _ k f. (f.0, f.1, taken_put s h p q other y k (and_left ((party s p).taken k) (some k)) f.2)))
frame s h (Begin p k) q ok other = let y : Party = record (party s p) { running = Some k; taken = put (party s p).taken k false } in
    reworked_free s h p q other (put_party s.parties p y)
    (record (now s) { begun = (now s).begun ++ k ∷ [] }) (look_else s.parties p y q other) refl refl (λ e. e)
    (λ j f. let a = times_snoc j (now s).begun k in let b = f.1 in let had : y.taken j ≡ false → (party s p).taken j ≡ false = λ e. by_equal j k
    (λ i. let c = times_same k (now s).begun in let d = ap (λ (z : ℕ). times z ((now s).begun ++ k ∷ [])) i in absurd (omega arith))
    (λ n. sym (put_else (party s p).taken k false j n) ∙ e) in (f.0, omega arith, taken_put s h p q other y j had f.2))
frame s h (Finish p) q ok other = let y : Party = record (party s p) { running = None } in
    reworked_free s h p q other (put_party s.parties p y)
    (record (now s) { finished = (now s).finished ++ ended_by (party s p).running }) (look_else s.parties p y q other) refl refl (λ e. e)
    (λ j f. (f.0, f.1, taken_put s h p q other y j (λ e. e) f.2))
frame s h (Stop p) q ok other = reworked_free s h p q other s.parties
    (record (now s) { stopped = true; seen = put (now s).seen p true }) refl (put_else (now s).seen p true q other) refl (λ _. refl) (λ j f. f)
frame s h (See p) q ok other = reworked_free s h p q other s.parties
    (record (now s) { seen = put (now s).seen p true }) refl (put_else (now s).seen p true q other) refl (λ e. e) (λ j f. f)
frame s h (PutBack p) q ok other = changed s h p q other (record (party s p) { taken = no_set }) s.closer ((λ e. e), (λ e. e)) (inr (h.work.saw p ok.1))
frame s h (Arrive p) q ok other = restatus s h p q other Arrived _ (new_closer s h p q other (moved s p Arrived) ok.0)
frame s h (Leave p) q ok other = restatus s h p q other Out s.closer ((λ e. e), (λ e. e))
frame s h (Exit p) q ok other = exiting s h p q other ok.0 ok.2
frame s h (Clear p) q ok other = steady refl refl ((λ e. e), (λ e. e)) (λ n e _. absurd (none_in s.parties (h.gate.closing p ok).0 q e)) (λ _ _. refl)
    (inl (λ _ k f. f)) (λ e. e) refl (λ _. refl)
frame s h (End p) q ok other = let z = ok.0 in inr record {
  round = omega arith;
  same = look_wake s.parties q;
  out = none_in s.parties (h.gate.closing p ok.0).0 q;
  closer = λ e. cc;
  before = λ e. other (let a : p ≡ q = cc in sym a);
  hidden = ok.1;
  seen = ap (λ (r : Round). r.seen q) (h.later (s.round + 1) (omega arith));
}

-- who closes is alone
pub closer_alone : (s : State) (h : Sound s) (e : Event) (q : ℕ) → Allowed s e → s.closer ≡ Some q → by e ≡ q
closer_alone s h (Join p) q ok c = let z = ok.1 in absurd cc
closer_alone s h (Publish p n) q ok c = let z = no_closer s h p ok.1 in absurd cc
closer_alone s h (PublishTry p n) q ok c = let z = no_closer s h p ok.1 in absurd cc
closer_alone s h (Take p some) q ok c = let z = no_closer s h p ok.1 in absurd cc
closer_alone s h (Finish p) q ok c = let f = h.work.fits p in let z = no_closer s h p (f.within ok.0 (inr (f.ran ok.0 ok.1))) in absurd cc
closer_alone s h (Stop p) q ok c = let f = h.work.fits p in let z = no_closer s h p (f.within ok.0.0 (inr (f.ran ok.0.0 ok.0.1))) in absurd cc
closer_alone s h (Leave p) q ok c = let z = ok.1 in absurd cc
closer_alone s h (Clear p) q ok c = let z = ok in cc
closer_alone s h (End p) q ok c = let z = ok.0 in cc
closer_alone s h e q ok c = let z = no_closer s h (by e) ok.0 in absurd cc
