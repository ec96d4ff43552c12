-- Each event keeps what is true of the rounds.
use Rattle.std.proofs.Common.{◌≡◌, ◌≢◌, ◌⊎◌, inl, inr, ⊎_elim, ℕ, ◌+◌, ◌<◌, ◌≤◌, Bool, true, false, ◌||◌, eq-eqb, ne_eqb, List, [], ◌∷◌, ◌++◌, sym, refl, ap}
use Rattle.std.proofs.Common.{◌∙◌, subst, arith, Option, Some, None, if◌then◌else◌, ◌==◌}
use Rattle.spindle_parts.specs.State.{Status, Out, In, Arrived, Party, Round, State, put, blank, fresh, no_set, party_of, put_party, times, is_in, is_member}
use Rattle.spindle_parts.specs.State.{weight_in, weight_member, inside, members, waking, wake, now, party, change, change_round, Free}
use Rattle.spindle_parts.specs.Steps.{with_status, Allowed, IsIdle, after, arrived, publish, ended_by, Event, Join, Publish, PublishTry, Take, Begin, Finish}
use Rattle.spindle_parts.specs.Steps.{Stop, See, PutBack, Arrive, Leave, Exit, Clear, End}
use Rattle.spindle_parts.specs.Runs.{state, IsRun, IsOnce}
use Rattle.spindle_parts.proofs.Parties.{by_equal, by_order, by_zero, by_option, moved, with_parties, next_round, put_here, put_else, put_all, put_again}
use Rattle.spindle_parts.proofs.Parties.{look_here, look_else, total_put, total_at, inside_le_members, look_wake, inside_wake, members_wake}
use Rattle.spindle_parts.proofs.Fates.{weights, Fate, Open, Held, Ran, Done, Work, status_work, begin_work, finish_work, take_work, put_back_work, see_work}
use Rattle.spindle_parts.proofs.Fates.{completes, restarts, publish_work, free_is_open, open_is_free, idle_out, open_work, Complete}

pub record Gate (closer published : Option ℕ) (i m jobs : ℕ) (leader : Status) : Type 0 where
  pub closing : (c : ℕ) → closer ≡ Some c → (i ≡ 0) × (0 < m)
  pub going : closer ≡ None → 0 < m → 0 < i
  pub few : m ≤ 32767
  pub shown : (n : ℕ) → published ≡ Some n → (jobs ≡ n) × (2 ≤ n) × (n ≤ 4294967295)
  pub hidden : published ≡ None → closer ≡ None → jobs ≡ 0
  pub led : 0 < jobs → leader ≢ Out

gate : {c o : Option ℕ} {i m jobs : ℕ} {t : Status} → ((q : ℕ) → c ≡ Some q → (i ≡ 0) × (0 < m)) → (c ≡ None → 0 < m → 0 < i) → m ≤ 32767
    → ((n : ℕ) → o ≡ Some n → (jobs ≡ n) × (2 ≤ n) × (n ≤ 4294967295)) → (o ≡ None → c ≡ None → jobs ≡ 0) → (0 < jobs → t ≢ Out) → Gate c o i m jobs t
gate closing going few shown hidden led = record { closing = closing; going = going; few = few; shown = shown; hidden = hidden; led = led }

abbrev pub Used : (ℕ → Fate) → ℕ → Bool → Type 0
Used fate jobs stopped = ((k : ℕ) → k < jobs → fate k ≢ Open) ⊎ (stopped ≡ true)

abbrev pub Spent : (ℕ → Fate) → ℕ → Bool → Status → Type 0
Spent fate jobs stopped leader = 0 < jobs → leader ≡ Arrived → Used fate jobs stopped

pub record Sound (s : State) : Type 0 where
  pub fate : ℕ → Fate
  pub work : Work fate (now s) s.parties
  pub gate : Gate s.closer s.published (inside s.parties) (members s.parties) (now s).jobs (party s 0).status
  pub spent : Spent fate (now s).jobs (now s).stopped (party s 0).status
  pub later : (q : ℕ) → s.round < q → s.rounds q ≡ blank
  pub ended : (q : ℕ) → q < s.round → Complete (s.rounds q)

module _ (s : State) (h : Sound s) (p : ℕ) where
  -- the party's status stays
  same_in : (y : Party) → y.status ≡ (party s p).status → inside (put_party s.parties p y) ≡ inside s.parties
  same_in y e = let a = total_put weight_in refl s.parties p y in let b = ap is_in e in omega arith

  same_members : (y : Party) → y.status ≡ (party s p).status → members (put_party s.parties p y) ≡ members s.parties
  same_members y e = let a = total_put weight_member refl s.parties p y in let b = ap is_member e in omega arith

  same_status : (y : Party) → y.status ≡ (party s p).status → (q : ℕ) → (party_of (put_party s.parties p y) q).status ≡ (party s q).status
  same_status y e q = by_equal q p (λ i. ap (λ (z : ℕ). (party_of (put_party s.parties p y) z).status) i
      ∙ (ap (λ (z : Party). z.status) (look_here s.parties p y) ∙ (e ∙ ap (λ (z : ℕ). (party s z).status) (sym i))))
      (λ n. ap (λ (z : Party). z.status) (look_else s.parties p y q n))

  -- the round's record becomes r
  round_step : (r : Round) (ps : List Party) (o : Option ℕ) (g : ℕ → Fate) → Work g r ps
      → Gate s.closer o (inside ps) (members ps) r.jobs (party_of ps 0).status → Spent g r.jobs r.stopped (party_of ps 0).status
      → Sound (record { round = s.round; parties = ps; closer = s.closer; published = o; rounds = put s.rounds s.round r })
  round_step r ps o g w gate spent = let is = sym (put_here s.rounds s.round r) in record {
    fate = g;
    work = subst (λ (z : Round). Work g z ps) is w;
    gate = subst (λ (z : Round). Gate s.closer o (inside ps) (members ps) z.jobs (party_of ps 0).status) is gate;
    spent = subst (λ (z : Round). Spent g z.jobs z.stopped (party_of ps 0).status) is spent;
    later = λ q lt. put_else s.rounds s.round r q (λ e. omega arith) ∙ h.later q lt;
    ended = λ q lt. subst Complete (sym (put_else s.rounds s.round r q (λ e. omega arith))) (h.ended q lt);
  }

  -- a step in the work, to the round r and the fates g
  work_step : (r : Round) (ps : List Party) (g : ℕ → Fate) → inside ps ≡ inside s.parties
      → members ps ≡ members s.parties → (party_of ps 0).status ≡ (party s 0).status → r.jobs ≡ (now s).jobs → ((now s).stopped ≡ true → r.stopped ≡ true)
      → ((k : ℕ) → h.fate k ≢ Open → g k ≢ Open) ⊎ (r.stopped ≡ true) → Work g r ps → Sound (with_parties s ps s.closer (put s.rounds s.round r))
  work_step r ps g ins mem led jobs stopped grows w = round_step r ps s.published g w
      (subst (λ (z : ℕ × ℕ × ℕ × Status). Gate s.closer s.published z.0 z.1 z.2 z.3) (λ i. (sym ins i, sym mem i, sym jobs i, sym led i)) h.gate)
      (subst (Spent g r.jobs r.stopped) (sym led) (λ some at. ⊎_elim (λ a. ⊎_elim (λ b. inl (λ k lt. b k (a k (omega arith)))) inr grows)
      (λ a. inr (stopped a)) (h.spent (omega arith) at)))

  -- the same for one party, which keeps its status
  party_step : (r : Round) (y : Party) (g : ℕ → Fate) → y.status ≡ (party s p).status → r.jobs ≡ (now s).jobs
      → ((now s).stopped ≡ true → r.stopped ≡ true) → ((k : ℕ) → h.fate k ≢ Open → g k ≢ Open) ⊎ (r.stopped ≡ true) → Work g r (put_party s.parties p y)
      → Sound (with_parties s (put_party s.parties p y) s.closer (put s.rounds s.round r))
  party_step r y g st = work_step r (put_party s.parties p y) g (same_in y st) (same_members y st) (same_status y st 0)

  -- the same with no change of the round
  lone_step : (y : Party) (g : ℕ → Fate) → y.status ≡ (party s p).status
      → ((k : ℕ) → h.fate k ≢ Open → g k ≢ Open) ⊎ ((now s).stopped ≡ true) → Work g (now s) (put_party s.parties p y) → Sound (change s p y)
  lone_step y g st grows w = subst (λ (z : ℕ → Round). Sound (with_parties s (put_party s.parties p y) s.closer z)) (put_again s.rounds s.round)
      (party_step (now s) y g st refl (λ a. a) grows w)

  counts : (t u : Status) → (party s p).status ≡ u
      → (inside (moved s p t) + is_in u ≡ inside s.parties + is_in t) × (members (moved s p t) + is_member u ≡ members s.parties + is_member t)
  counts t u e = let a = ap is_in e in let b = ap is_member e in let c₀ = total_put weight_in refl s.parties p (with_status t (party s p)) in
      let c₁ = total_put weight_member refl s.parties p (with_status t (party s p)) in (omega arith, omega arith)

  leads : (P : Status → Type 0) (t : Status) → (p ≡ 0 → P t) → (p ≢ 0 → P (party s 0).status) → P (party_of (moved s p t) 0).status
  leads P t mine other = by_equal p 0 (λ e. subst (λ (z : ℕ). P (party_of (moved s p t) z).status) e
      (subst (λ (z : Party). P z.status) (sym (look_here s.parties p (with_status t (party s p)))) (mine e)))
      (λ n. subst (λ (z : Party). P z.status) (sym (look_else s.parties p (with_status t (party s p)) 0 (λ e. n (sym e)))) (other n))

  status_step : (t : Status) (c : Option ℕ) → (t ≡ In) ⊎ IsIdle s p → ((q : ℕ) → c ≡ Some q → (inside (moved s p t) ≡ 0) × (0 < members (moved s p t)))
      → (c ≡ None → 0 < members (moved s p t) → 0 < inside (moved s p t)) → members (moved s p t) ≤ 32767
      → (s.published ≡ None → c ≡ None → (now s).jobs ≡ 0) → (p ≡ 0 → 0 < (now s).jobs → t ≢ Out)
      → (p ≡ 0 → 0 < (now s).jobs → t ≡ Arrived → Used h.fate (now s).jobs (now s).stopped) → Sound (with_parties s (moved s p t) c s.rounds)
  status_step t c ok closing going few hidden led spent = record {
    fate = h.fate;
    work = status_work h.fate (now s) s.parties h.work p t ok;
    gate = gate closing going few h.gate.shown hidden (λ some. leads (λ z. z ≢ Out) t (λ e. led e some) (λ _. h.gate.led some));
    spent = λ some. leads (λ z. z ≡ Arrived → Used h.fate (now s).jobs (now s).stopped) t (λ e. spent e some) (λ _. h.spent some);
    later = h.later;
    ended = h.ended;
  }

  -- while a member is in there is no closer
  pub no_closer : (party s p).status ≡ In → s.closer ≡ None
  no_closer e = by_option s.closer (λ z. z)
      (λ c z. let a = (h.gate.closing c z).0 in let b = total_at weight_in refl s.parties p in let d = ap is_in e in absurd (omega arith))

  pub no_jobs : s.published ≡ None → s.closer ≡ None → (now s).jobs ≡ 0
  no_jobs = h.gate.hidden

pub out_of : (t : Status) → is_member t ≡ 0 → t ≡ Out
out_of Out z = refl
out_of t z = absurd (omega arith)

-- while the leader is out nothing is published
pub hidden_out : (s : State) → Sound s → (party s 0).status ≡ Out → s.published ≡ None
hidden_out s h out = by_option s.published (λ e. e) (λ n e. let a = h.gate.shown n e in let a₀ = a.0 in let a₁ = a.1 in absurd (h.gate.led (omega arith) out))

-- where the last member goes, nothing is published
pub alone_hidden : (s : State) (h : Sound s) (p : ℕ) → (party s p).status ≡ In → (p ≡ 0 → s.published ≡ None) → members (moved s p Out) ≡ 0 → s.published ≡ None
alone_hidden s h p at_in fine z = by_equal p 0 fine
    (λ n. hidden_out s h (sym (ap (λ (x : Party). x.status) (look_else s.parties p (with_status Out (party s p)) 0 (λ e. n (sym e))))
    ∙ out_of (party_of (moved s p Out) 0).status (let a = total_at weight_member refl (moved s p Out) 0 in omega arith)))

joins : (s : State) → Sound s → (p : ℕ) → Allowed s (Join p) → Sound (after s (Join p))
joins s h p ok = let c = counts s h p In Out ok.0 in let c₀ = c.0 in let c₁ = c.1 in let few = ok.2 in status_step s h p In s.closer (inl refl)
    (λ q e. let z = ok.1 in absurd cc) (λ _ _. omega arith) (omega arith) h.gate.hidden (λ _ _ e. cc) (λ _ _ e. absurd cc)

leaves : (s : State) → Sound s → (p : ℕ) → Allowed s (Leave p) → Sound (after s (Leave p))
leaves s h p ok = let c = counts s h p Out Arrived ok.0 in let c₀ = c.0 in let c₁ = c.1 in let few = h.gate.few in
    status_step s h p Out s.closer (inr (idle_out h.fate (now s) s.parties h.work p (λ e. let z = ok.0 in cc))) (λ q e. let z = ok.1 in absurd cc)
    (λ n some. let a = h.gate.going n (omega arith) in omega arith) (omega arith) h.gate.hidden
    (λ e some. let z = no_jobs s h p (ok.2 e) ok.1 in absurd (omega arith)) (λ _ _ e. absurd cc)

-- where a test of the count decides the closer
pub closers : (P : Option ℕ → Type 0) (i p : ℕ) (c : Option ℕ) → (i ≡ 0 → P (Some p)) → (i ≢ 0 → P c) → P (if i == 0 then Some p else c)
closers P i p c none_in some_in = by_equal i 0 (λ e. subst (λ (b : Bool). P (if b then Some p else c)) (sym (eq-eqb i 0 e)) (none_in e))
    (λ n. subst (λ (b : Bool). P (if b then Some p else c)) (sym (ne_eqb i 0 n)) (some_in n))

-- who was in goes, and a member is left
goes : (s : State) (h : Sound s) (p : ℕ) (t : Status) → (party s p).status ≡ In → is_member t ≤ 1 → IsIdle s p → 0 < members (moved s p t)
    → (p ≡ 0 → 0 < (now s).jobs → t ≢ Out) → (p ≡ 0 → 0 < (now s).jobs → t ≡ Arrived → Used h.fate (now s).jobs (now s).stopped)
    → Sound (arrived s p (moved s p t))
goes s h p t at_in one idle left led spent = let c = counts s h p t In at_in in let c₁ = c.1 in let few = h.gate.few in let open_now = no_closer s h p at_in in
    closers (λ z. Sound (with_parties s (moved s p t) z s.rounds)) (inside (moved s p t)) p s.closer
    (λ none_in. status_step s h p t (Some p) (inr idle) (λ q e. (none_in, left)) (λ e. absurd cc) (omega arith) (λ _ e. absurd cc) led spent)
    (λ some_in. status_step s h p t s.closer (inr idle) (λ q e. absurd cc) (λ _ _. omega arith) (omega arith) h.gate.hidden led spent)

arrives : (s : State) → Sound s → (p : ℕ) → Allowed s (Arrive p) → Sound (after s (Arrive p))
arrives s h p ok = let c = counts s h p Arrived In ok.0 in let c₁ = c.1 in let b = ap is_member ok.0 in let m = total_at weight_member refl s.parties p in
    goes s h p Arrived ok.0 (omega arith) ok.1 (omega arith) (λ _ _ e. cc) (λ _ some _. ⊎_elim (λ (n : (k : ℕ) → Free s k → ⊥). inl
    (λ k lt e. n k (lt, (open_is_free h.fate (now s) s.parties h.work k e).0, (open_is_free h.fate (now s) s.parties h.work k e).1))) inr
    (ok.2 (λ e. let z = no_jobs s h p e (no_closer s h p ok.0) in absurd (omega arith))))

arrived_of : (t : Status) → t ≢ Out → t ≢ In → t ≡ Arrived
arrived_of Out a b = absurd (a refl)
arrived_of In a b = absurd (b refl)
arrived_of Arrived a b = refl

-- where the count is 0 nobody is in
pub none_in : (l : List Party) → inside l ≡ 0 → (q : ℕ) → (party_of l q).status ≢ In
none_in l z q e = let a = total_at weight_in refl l q in let b = ap is_in e in omega arith

-- the round ends, with other statuses and nothing published
ends : (s : State) (h : Sound s) (ps qs : List Party) → Work h.fate (now s) ps
    → inside ps ≡ 0 → Used h.fate (now s).jobs (now s).stopped → ((q : ℕ) → (t : Status) × (party_of qs q ≡ with_status t (party_of ps q)))
    → (0 < members qs → 0 < inside qs) → members qs ≤ 32767 → s.published ≡ None → Sound (next_round s qs None)
ends s h ps qs w z used same going few hidden = let next : s.rounds (s.round + 1) ≡ blank = h.later (s.round + 1) (omega arith) in record {
  fate = λ _. Open;
  work = subst (λ (r : Round). Work (λ _. Open) r qs) (sym next) (restarts h.fate (now s) ps w (none_in ps z) qs same);
  gate = subst (λ (r : Round). Gate None s.published (inside qs) (members qs) r.jobs (party_of qs 0).status) (sym next)
      (gate (λ q e. absurd cc) (λ _. going) few (λ n e. absurd cc) (λ _ _. refl) (λ lt. absurd (omega arith)));
  spent = subst (λ (r : Round). Spent (λ _. Open) r.jobs r.stopped (party_of qs 0).status) (sym next) (λ lt. absurd (omega arith));
  later = λ q lt. h.later q (omega arith);
  ended = λ q lt. by_equal q s.round
      (λ e. subst (λ (i : ℕ). Complete (s.rounds i)) (sym e) (completes h.fate (now s) ps w (none_in ps z) used)) (λ n. h.ended q (omega arith));
}

exits : (s : State) → Sound s → (p : ℕ) → Allowed s (Exit p) → Sound (after s (Exit p))
exits s h p ok = let c = counts s h p Out In ok.0 in let c₁ = c.1 in let few = h.gate.few in let open_now = no_closer s h p ok.0 in
    let ps : List Party = moved s p Out in let le = inside_le_members ps in
    by_zero (λ b. Sound (if b then next_round s ps s.closer else arrived s p ps)) (members ps)
    (λ none_left. let hidden = alone_hidden s h p ok.0 ok.2 none_left in let z = no_jobs s h p hidden open_now in
    subst (λ (d : Option ℕ). Sound (next_round s ps d)) (sym open_now)
    (ends s h ps ps (status_work h.fate (now s) s.parties h.work p Out (inr ok.1)) (omega arith) (inl (λ k lt. absurd (omega arith)))
    (λ q. ((party_of ps q).status, refl)) (λ lt. absurd (omega arith)) (omega arith) hidden))
    (λ some_left. goes s h p Out ok.0 (omega arith) ok.1 (omega arith)
    (λ e some. let z = no_jobs s h p (ok.2 e) open_now in absurd (omega arith)) (λ _ _ e. absurd cc))

closes : (s : State) → Sound s → (p : ℕ) → Allowed s (End p) → Sound (after s (End p))
closes s h p ok = let g = h.gate in let c = g.closing p ok.0 in
    ends s h s.parties (wake s.parties) h.work c.0 (by_equal (now s).jobs 0
    (λ z. inl (λ k lt. absurd (omega arith))) (λ n. h.spent (omega arith) (arrived_of (party s 0).status (g.led (omega arith)) (none_in s.parties c.0 0))))
    (λ q. (waking (party s q).status, look_wake s.parties q))
    (λ lt. let a = inside_wake s.parties in let b = members_wake s.parties in omega arith)
    (let b = members_wake s.parties in let d = g.few in omega arith) ok.1

publishes : (s : State) → Sound s → (b : Bool) (n : ℕ) → (party s 0).status ≡ In → s.published ≡ None → 2 ≤ n → n ≤ 4294967295 → Sound (publish s b n)
publishes s h b n at_in hidden low high = let g = h.gate in
    round_step s h 0 (record (now s) { jobs = n; stoppable = b }) s.parties (Some n) h.fate
    (publish_work h.fate (now s) s.parties h.work b n (no_jobs s h 0 hidden (no_closer s h 0 at_in)))
    (gate g.closing g.going g.few (λ k e. let a : n ≡ k = cc in (a, omega arith, omega arith)) (λ e. absurd cc) (λ _ e. cc)) (λ _ e. absurd cc)

clears : (s : State) (h : Sound s) (p : ℕ) → s.closer ≡ Some p → Sound (after s (Clear p))
clears s h p is = let g = h.gate in let shut : Gate s.closer None (inside s.parties) (members s.parties) (now s).jobs (party s 0).status =
    gate g.closing g.going g.few (λ n e. absurd cc) (λ _ e. absurd cc) g.led in
    record { fate = h.fate; work = h.work; gate = shut; spent = h.spent; later = h.later; ended = h.ended }

pick_open : (b : Bool) (p : ℕ) (f : Fate) → f ≢ Open → (if b then Held p else f) ≢ Open
pick_open true p f n e = cc
pick_open false p f n e = n e

pub kept : (s : State) (e : Event) → Sound s → Allowed s e → Sound (after s e)
kept s (Join p) h ok = joins s h p ok
kept s (Publish p n) h ok = publishes s h false n (ap (λ (z : ℕ). (party s z).status) (sym ok.0) ∙ ok.1) ok.2 ok.3 ok.4
kept s (PublishTry p n) h ok = publishes s h true n (ap (λ (z : ℕ). (party s z).status) (sym ok.0) ∙ ok.1) ok.2 ok.3 ok.4
kept s (Take p some) h ok = lone_step s h p (record (party s p) { taken = λ k. (party s p).taken k || some k })
    (λ k. if some k then Held p else h.fate k) refl (inl (λ k n. pick_open (some k) p (h.fate k) n))
    (take_work h.fate (now s) s.parties h.work p some ok.1
    (λ k e. (free_is_open h.fate (now s) s.parties h.work k (ok.4 k e).1 (ok.4 k e).2, (ok.4 k e).0)))
kept s (Begin p k) h ok = party_step s h p (record (now s) { begun = (now s).begun ++ k ∷ [] })
    (record (party s p) { running = Some k; taken = put (party s p).taken k false }) (put h.fate k (Ran p)) refl refl (λ a. a)
    (inl (put_all (λ j g. h.fate j ≢ Open → g ≢ Open) h.fate k (Ran p) (λ _ e. cc) (λ j _ a. a)))
    (begin_work h.fate (now s) s.parties h.work p k ok.0 ok.2 ok.3)
kept s (Finish p) h ok = let k = ok.0 in subst (λ (l : List ℕ). Sound
    (change (change_round s (record (now s) { finished = (now s).finished ++ l })) p (record (party s p) { running = None }))) (sym (ap ended_by ok.1))
    (party_step s h p
    (record (now s) { finished = (now s).finished ++ k ∷ [] }) (record (party s p) { running = None }) (put h.fate k Done) refl refl (λ a. a)
    (inl (put_all (λ j g. h.fate j ≢ Open → g ≢ Open) h.fate k Done (λ _ e. cc) (λ j _ a. a))) (finish_work h.fate (now s) s.parties h.work p k ok.1))
kept s (Stop p) h ok = let f = (h.work.fits p).ran ok.0.0 ok.0.1 in let some = h.work.below ok.0.0 (λ e. cc) in
    work_step s h p (record (now s) { stopped = true; seen = put (now s).seen p true }) s.parties h.fate refl refl refl refl
    (λ _. refl) (inr refl) (see_work h.fate (now s) s.parties h.work p true (λ _. refl) (λ _. (ok.1, omega arith)) refl)
kept s (See p) h ok = work_step s h p (record (now s) { seen = put (now s).seen p true }) s.parties h.fate refl refl refl refl
    (λ a. a) (inr ok.1) (see_work h.fate (now s) s.parties h.work p (now s).stopped (λ e. e) h.work.stops ok.1)
kept s (PutBack p) h ok = lone_step s h p (record (party s p) { taken = no_set })
    (λ k. if (party s p).taken k then Open else h.fate k) refl (inr (h.work.saw p ok.1)) (put_back_work h.fate (now s) s.parties h.work p)
kept s (Arrive p) h ok = arrives s h p ok
kept s (Leave p) h ok = leaves s h p ok
kept s (Exit p) h ok = exits s h p ok
kept s (Clear p) h ok = clears s h p ok
kept s (End p) h ok = closes s h p ok

pub starts : Sound fresh
starts = record {
  fate = λ _. Open;
  work = open_work [] (λ q. ((λ k. refl), refl));
  gate = gate (λ c e. absurd cc) (λ _ lt. absurd (omega arith)) (omega arith) (λ n e. absurd cc) (λ _ _. refl) (λ lt. absurd (omega arith));
  spent = λ lt. absurd (omega arith);
  later = λ _ _. refl;
  ended = λ q lt. absurd (omega arith);
}

pub sound : (es : List Event) → IsRun es → Sound (state es)
sound [] r = starts
sound (e ∷ es) r = kept (state es) e (sound es r.1) r.0

once : (s : State) → Sound s → IsOnce s
once s h q k = by_equal q s.round
    (λ e. subst (λ (i : ℕ). (times k (s.rounds i).begun ≤ 1) × (times k (s.rounds i).finished ≤ times k (s.rounds i).begun)) (sym e)
    (let a = h.work.begun k in let b = h.work.finished k in let c = weights (h.fate k) in let c₀ = c.0 in let c₁ = c.1 in (omega arith, omega arith)))
    (λ n. by_order q s.round (λ le. let c = h.ended q (omega arith) in let a = c.once k in let b = c.same k in (a, omega arith))
    (λ no. subst (λ (r : Round). (times k r.begun ≤ 1) × (times k r.finished ≤ times k r.begun)) (sym (h.later q (omega arith))) (omega arith, omega arith)))

pub run_once : (es : List Event) → IsRun es → IsOnce (state es)
run_once es r = once (state es) (sound es r)
