-- The machine shows the state after each step that the definitions allow.
use Rattle.std.proofs.Common.{◌≡◌, ◌≢◌, ℕ, ◌+◌, ◌-◌, ◌/◌, ◌%◌, ◌<◌, ◌≤◌, Bool, true, false, not, List, ◌++◌, length, get_or, sym, refl, ap, ◌∙◌, subst, arith}
use Rattle.std.proofs.Common.{Option, Some, None, if◌then◌else◌, ◌==◌, length-append}
use Rattle.spindle_parts.specs.State.{Status, Out, In, Arrived, Party, Round, State, put, party_of, put_party, times, is_in, is_member, weight_in, waking, wake}
use Rattle.spindle_parts.specs.State.{weight_member, now, party, change_round}
use Rattle.spindle_parts.specs.State as state
use Rattle.spindle_parts.specs.Steps.{with_status, Allowed, after, arrived, left, ended_by}
use Rattle.spindle_parts.specs.Steps as events
use Rattle.spindle_parts.specs.Machine.{Seat, Configuration, standing, with_seen, turned, closing, effect}
use Rattle.spindle_parts.specs.EverySchedule.{Shows, StandsFor}
use Rattle.spindle_parts.specs.declared.steps.Step.TheVariants.{Join, Finish, Stop, See, Arrive, Leave, Exit, Clear, End}
use Rattle.spindle_parts.proofs.Parties.{by_equal, moved, with_parties, next_round, by_zero, put_here, put_else, put_all, look_here, look_else, total_put}
use Rattle.spindle_parts.proofs.Parties.{total_at, inside_le_members, look_wake, inside_wake, members_wake}
use Rattle.spindle_parts.proofs.Soundness.{Sound, no_closer, out_of}

-- what the machine knows of a party is so
pub record Fits (x : Seat) (y : Party) (saw : Bool) : Type 0 where
  pub status : x.status ≡ y.status
  pub running : x.running ≡ y.running
  pub seen : x.seen ≡ saw
  pub untaken : (k : ℕ) → y.taken k ≡ false

-- one party's seat and record become x and y
seats_put : (f : ℕ → Seat) (ps : List Party) (p : ℕ) (x : Seat) (y : Party) (seen : ℕ → Bool)
    → Fits x y (seen p) → ((q : ℕ) → q ≢ p → Fits (f q) (party_of ps q) (seen q)) → (q : ℕ) → Fits (put f p x q) (party_of (put_party ps p y) q) (seen q)
seats_put f ps p x y seen here away q = by_equal q p
    (λ e. subst (λ (z : ℕ). Fits (put f p x z) (party_of (put_party ps p y) z) (seen z)) (sym e)
    (subst (λ (w : Seat × Party). Fits w.0 w.1 (seen p)) (λ i. (sym (put_here f p x) i, sym (look_here ps p y) i)) here))
    (λ n. subst (λ (w : Seat × Party). Fits w.0 w.1 (seen q)) (λ i. (sym (put_else f p x q n) i, sym (look_else ps p y q n) i)) (away q n))

-- counters and remainder stand for the jobs that haven't begun
pub record Tally (cs : List ℕ) (rem fin jobs : ℕ) (begun done : List ℕ) (n : ℕ) : Type 0 where
  pub own_at_most : (t : ℕ) → t < length cs → get_or cs t 0 ≤ n / length cs
  pub rest_at_most : rem ≤ n % length cs
  pub unbegun : (k : ℕ) → k < jobs → times k begun ≡ 0 → StandsFor (length cs) (n / length cs) (λ t. get_or cs t 0) rem n k
  pub left : (k : ℕ) → StandsFor (length cs) (n / length cs) (λ t. get_or cs t 0) rem n k → (k < jobs) × (times k begun ≡ 0)
  pub finished : fin ≡ length done

-- the machine shows the state, whose round's record is r
pub shown : (m : Configuration) (s : State) (r : Round) → now s ≡ r → ((p : ℕ) → Fits (m.seat p) (party s p) (r.seen p))
    → m.inside ≡ state.inside s.parties → m.members ≡ state.members s.parties → (if m.sense then 1 else 0) ≡ s.round % 2
    → m.closer ≡ s.closer → m.published ≡ s.published → m.stoppable ≡ r.stoppable → m.stopped ≡ r.stopped
    → ((n : ℕ) → s.published ≡ Some n → Tally m.counters m.remainder m.finished r.jobs r.begun r.finished n) → Shows m s
shown m s r e fits ins mem sense closer published stoppable stopped tally = record {
  status = λ p. (fits p).status;
  running = λ p. (fits p).running;
  seen = λ p. (fits p).seen ∙ sym (ap (λ (x : Round). x.seen p) e);
  untaken = λ p. (fits p).untaken;
  inside = ins;
  members = mem;
  sense = sense;
  closer = closer;
  published = published;
  stoppable = stoppable ∙ sym (ap (λ (x : Round). x.stoppable) e);
  stopped = stopped ∙ sym (ap (λ (x : Round). x.stopped) e);
  counts = λ n is. let t = subst (λ (x : Round). Tally m.counters m.remainder m.finished x.jobs x.begun x.finished n) (sym e) (tally n is) in record {
    own_at_most = t.own_at_most;
    rest_at_most = t.rest_at_most;
    free_is_left = λ k free. t.unbegun k free.0 free.1;
    left_is_free = λ k l. ((t.left k l).0, (t.left k l).1, λ p. (fits p).untaken k);
    finished = t.finished;
  };
}

module _ {m : Configuration} {s : State} (a : Shows m s) where
  pub seats : (p : ℕ) → Fits (m.seat p) (party s p) ((now s).seen p)
  seats p = record { status = a.status p; running = a.running p; seen = a.seen p; untaken = a.untaken p }

  pub tally : (n : ℕ) → s.published ≡ Some n → Tally m.counters m.remainder m.finished (now s).jobs (now s).begun (now s).finished n
  tally n e = let c = a.counts n e in record {
    own_at_most = c.own_at_most;
    rest_at_most = c.rest_at_most;
    unbegun = λ k lt z. c.free_is_left k (lt, z, λ p. a.untaken p k);
    left = λ k l. ((c.left_is_free k l).0, (c.left_is_free k l).1);
    finished = c.finished;
  }

-- the sense flips with the round
flipped : (b : Bool) (r : ℕ) → (if b then 1 else 0) ≡ r % 2 → (if not b then 1 else 0) ≡ (r + 1) % 2
flipped true r e = omega arith
flipped false r e = omega arith

module _ {m : Configuration} {s : State} (a : Shows m s) (h : Sound s) (p : ℕ) where
  -- how many are in and how many are members, where the party's status u becomes t
  counts : (t u : Status) → (party s p).status ≡ u
      → (state.inside (moved s p t) + is_in u ≡ m.inside + is_in t) × (state.members (moved s p t) + is_member u ≡ m.members + is_member t)
  counts t u e = let b₀ = ap is_in e in let b₁ = ap is_member e in let i = a.inside in let n = a.members in
      let c₀ = total_put weight_in refl s.parties p (with_status t (party s p)) in
      let c₁ = total_put weight_member refl s.parties p (with_status t (party s p)) in (omega arith, omega arith)

  stands : (t : Status) (q : ℕ) → Fits (standing m p t q) (party_of (moved s p t) q) ((now s).seen q)
  stands t = seats_put m.seat s.parties p (record (m.seat p) { status = t }) (with_status t (party s p))
      (now s).seen record { status = refl; running = a.running p; seen = a.seen p; untaken = a.untaken p } (λ q _. seats a q)

  -- the party stands otherwise
  moves : (t : Status) (i n : ℕ) (c : Option ℕ) → i ≡ state.inside (moved s p t) → n ≡ state.members (moved s p t) → (d : Option ℕ) → d ≡ c
      → Shows (record m { seat = standing m p t; inside = i; members = n; closer = d }) (with_parties s (moved s p t) c s.rounds)
  moves t i n c ins mem d same = shown _ (with_parties s (moved s p t) c s.rounds) (now s) refl (stands t)
      ins mem a.sense same a.published a.stoppable a.stopped (tally a)

  pub joins : Allowed s (events.Join p) → Shows (effect m (Join p)) (after s (events.Join p))
  joins ok = let c = counts In Out ok.0 in let c₀ = c.0 in let c₁ = c.1 in
      moves In (m.inside + 1) (m.members + 1) s.closer (omega arith) (omega arith) m.closer a.closer

  pub leaves : Allowed s (events.Leave p) → Shows (effect m (Leave p)) (after s (events.Leave p))
  leaves ok = let c = counts Out Arrived ok.0 in let c₀ = c.0 in let c₁ = c.1 in
      moves Out m.inside (m.members - 1) s.closer (omega arith) (omega arith) m.closer a.closer

  -- who was in goes: the closer, by the machine's count and by the state's
  goes : (t : Status) (i n : ℕ) → i ≡ state.inside (moved s p t) → n ≡ state.members (moved s p t)
      → Shows (closing (record m { seat = standing m p t; inside = i; members = n }) p) (arrived s p (moved s p t))
  goes t i n ins mem = moves t i n (if state.inside (moved s p t) == 0 then Some p else s.closer) ins mem
      (if i == 0 then Some p else m.closer) (λ j. if ins j == 0 then Some p else a.closer j)

  pub arrives : Allowed s (events.Arrive p) → Shows (effect m (Arrive p)) (after s (events.Arrive p))
  arrives ok = let c = counts Arrived In ok.0 in let c₀ = c.0 in let c₁ = c.1 in goes Arrived (m.inside - 1) m.members (omega arith) (omega arith)

  -- a round's end: every seat is woken, in a state where it was so or nobody is a member
  turns : (x : ℕ → Seat) (ps qs : List Party) (i n : ℕ)
      → ((q : ℕ) → Fits (x q) (party_of ps q) ((now s).seen q)) → ((q : ℕ) → party_of qs q ≡ with_status (waking (party_of ps q).status) (party_of ps q))
      → n ≡ state.inside qs → n ≡ state.members qs → s.published ≡ None → Shows (turned (record m { seat = x; inside = i; members = n })) (next_round s qs None)
  turns x ps qs i n fits woken ins mem hidden = shown _ (next_round s qs None) state.blank (h.later (s.round + 1) (omega arith))
      (λ q. subst (λ (y : Party). Fits (record { status = waking (x q).status; running = (x q).running; seen = false }) y false)
      (sym (woken q)) record { status = ap waking (fits q).status; running = (fits q).running; seen = refl; untaken = (fits q).untaken })
      ins mem (flipped m.sense s.round a.sense) refl a.published refl refl (λ k e. absurd cc)

  pub ends : Allowed s (events.End p) → Shows (effect m (End p)) (after s (events.End p))
  ends ok = turns m.seat s.parties (wake s.parties) m.inside m.members (seats a) (look_wake s.parties)
      (a.members ∙ sym (inside_wake s.parties)) (a.members ∙ sym (members_wake s.parties)) ok.1

  -- with no members each party is out, and asleep or awake the same
  asleep : (ps : List Party) → state.members ps ≡ 0 → (q : ℕ) → party_of ps q ≡ with_status (waking (party_of ps q).status) (party_of ps q)
  asleep ps z q = let e = out_of (party_of ps q).status (let b = total_at weight_member refl ps q in omega arith) in
      λ i. with_status ((e ∙ sym (ap waking e)) i) (party_of ps q)

  pub exits : Allowed s (events.Exit p) → (state.members (moved s p Out) ≡ 0 → s.published ≡ None) → Shows (effect m (Exit p)) (after s (events.Exit p))
  exits ok hidden = let c = counts Out In ok.0 in let c₀ = c.0 in let c₁ = c.1 in let ps : List Party = moved s p Out in let le = inside_le_members ps in
      let mem : m.members - 1 ≡ state.members ps = omega arith in
      let left' : Configuration = record m { seat = standing m p Out; inside = m.inside - 1; members = m.members - 1 } in
      subst (λ (n : ℕ). Shows (if n == 0 then turned left' else closing left' p) (after s (events.Exit p))) (sym mem)
      (by_zero (λ b. Shows (if b then turned left' else closing left' p) (if b then next_round s ps s.closer else arrived s p ps)) (state.members ps)
      (λ z. subst (λ (o : Option ℕ). Shows (turned left') (next_round s ps o)) (sym (no_closer s h p ok.0))
      (turns (standing m p Out) ps ps (m.inside - 1) (m.members - 1) (stands Out) (asleep ps z) (omega arith) mem (hidden z)))
      (λ _. goes Out (m.inside - 1) (m.members - 1) (omega arith) mem))

  pub clears : Shows (effect m (Clear p)) (after s (events.Clear p))
  clears = shown (effect m (Clear p)) (after s (events.Clear p)) (now s) refl (seats a)
      a.inside a.members a.sense a.closer refl a.stoppable a.stopped (λ n e. absurd cc)

  -- the party has seen the stop, in a round stopped or not
  sees : (b : Bool) → Shows (record m { seat = with_seen m p; stopped = b }) (change_round s (record (now s) { stopped = b; seen = put (now s).seen p true }))
  sees b = let r : Round = record (now s) { stopped = b; seen = put (now s).seen p true } in
      shown (record m { seat = with_seen m p; stopped = b }) (change_round s r) r (put_here s.rounds s.round r)
      (put_all (λ q x. Fits x (party s q) (put (now s).seen p true q)) m.seat p (record (m.seat p) { seen = true })
      record { status = a.status p; running = a.running p; seen = sym (put_here (now s).seen p true); untaken = a.untaken p }
      (λ q n. subst (Fits (m.seat q) (party s q)) (sym (put_else (now s).seen p true q n)) (seats a q)))
      a.inside a.members a.sense a.closer a.published a.stoppable refl (tally a)

  pub stops : Shows (effect m (Stop p)) (after s (events.Stop p))
  stops = sees true

  pub looks : Shows (effect m (See p)) (after s (events.See p))
  looks = subst (λ (b : Bool × Bool). Shows (record m { seat = with_seen m p; stopped = b.0 }) (change_round s
      (record (now s) { stopped = b.1; seen = put (now s).seen p true }))) (λ i. (sym (a.stopped) i, (now s).stopped)) (sees (now s).stopped)

  -- the round's record and one party's become r and y, in a round whose jobs run
  pub works : (x : Seat) (ps : List Party) (y : Party) (r : Round) (cs : List ℕ) (rem fin : ℕ)
      → Fits x y (r.seen p) → ((q : ℕ) → q ≢ p → Fits (m.seat q) (party_of ps q) (r.seen q))
      → state.inside (put_party ps p y) ≡ state.inside s.parties → state.members (put_party ps p y) ≡ state.members s.parties
      → r.stoppable ≡ (now s).stoppable → r.stopped ≡ (now s).stopped → ((n : ℕ) → s.published ≡ Some n → Tally cs rem fin r.jobs r.begun r.finished n)
      → Shows (record m { seat = put m.seat p x; counters = cs; remainder = rem; finished = fin })
      (with_parties s (put_party ps p y) s.closer (put s.rounds s.round r))
  works x ps y r cs rem fin here away ins mem stoppable stopped tally =
      shown _ (with_parties s (put_party ps p y) s.closer (put s.rounds s.round r)) r (put_here s.rounds s.round r) (seats_put m.seat ps p x y r.seen here away)
      (a.inside ∙ sym ins) (a.members ∙ sym mem) a.sense a.closer a.published (a.stoppable ∙ sym stoppable) (a.stopped ∙ sym stopped) tally

  pub same_counts : (ps : List Party) (y : Party)
      → y.status ≡ (party_of ps p).status → (state.inside (put_party ps p y) ≡ state.inside ps) × (state.members (put_party ps p y) ≡ state.members ps)
  same_counts ps y e = let c₀ = total_put weight_in refl ps p y in
      let c₁ = total_put weight_member refl ps p y in let b₀ = ap is_in e in let b₁ = ap is_member e in (omega arith, omega arith)

  pub finishes : Allowed s (events.Finish p) → Shows (effect m (Finish p)) (after s (events.Finish p))
  finishes ok = let y : Party = record (party s p) { running = None } in let c = same_counts s.parties y refl in let l = ap ended_by ok.1 in
      works (record (m.seat p) { running = None }) s.parties y
      (record (now s) { finished = (now s).finished ++ ended_by (party s p).running }) m.counters m.remainder (m.finished + 1)
      record { status = a.status p; running = refl; seen = a.seen p; untaken = a.untaken p } (λ q _. seats a q) c.0 c.1 refl refl
      (λ n e. let t = tally a n e in record {
        own_at_most = t.own_at_most;
        rest_at_most = t.rest_at_most;
        unbegun = t.unbegun;
        left = t.left;
        finished = let f = t.finished in let g = length-append (now s).finished (ended_by (party s p).running) in
            let i : length (ended_by (party s p).running) ≡ 1 = ap (λ (z : List ℕ). length z) l in omega arith;
      })
