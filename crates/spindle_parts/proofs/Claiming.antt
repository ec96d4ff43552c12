-- The machine shows the state after a publish and after a claim.
use Rattle.std.proofs.Common.{◌≡◌, ◌≢◌, ℕ, ◌+◌, ◌*◌, ◌-◌, ◌/◌, ◌%◌, ◌<◌, Bool, true, false, ◌||◌, eq-eqb, ne_eqb, List, [], ◌∷◌, ◌++◌, length, get_or, set, sym}
use Rattle.std.proofs.Common.{replicate, refl, ap, ◌∙◌, subst, arith, Option, Some, unwrap_or, get_or-set_same, get_or-set_other}
use Rattle.std.proofs.lemmas.Nat.{div-add-mod'}
use Rattle.std.proofs.lemmas.List.{length-set, length-replicate, get_or-replicate}
use Rattle.spindle_parts.specs.State.{Party, Round, State, put, times, now, party, Free}
use Rattle.spindle_parts.specs.Steps.{IsPublishable, Allowed, after, publish, Take, Begin}
use Rattle.spindle_parts.specs.Machine.{Configuration, counter, own, claimed, rested, publishing, effect}
use Rattle.spindle_parts.specs.EverySchedule.{Shows, StandsFor, MayBegin, only}
use Rattle.spindle_parts.specs.declared.steps.Step.TheVariants.{Claim, Rest}
use Rattle.spindle_parts.proofs.Parties.{by_equal, by_option, put_all, put_here, look_here, look_else, times_same, times_else, tick_same}
use Rattle.spindle_parts.proofs.Fates.{or_right, open_is_free, none_begun, over}
use Rattle.spindle_parts.proofs.Soundness.{Sound, no_closer, no_jobs}
use Rattle.spindle_parts.proofs.Shares.{stands_below, all_stand, first_stands, rest_stands, stays_left, was_left, stays_rest, was_rest}
use Rattle.spindle_parts.proofs.Tests.{equal_by}
use Rattle.spindle_parts.proofs.Following.{Fits, Tally, shown, seats, tally, works, same_counts}

-- a list with no number in it is empty
no_times : (l : List ℕ) → ((k : ℕ) → times k l ≡ 0) → length l ≡ 0
no_times [] z = refl
no_times (x ∷ xs) z = let a = z x in let b = tick_same x in absurd (omega arith)

-- at a publish of n jobs
published_tally : (T n : ℕ) (begun done : List ℕ)
    → 0 < T → ((k : ℕ) → times k begun ≡ 0) → length done ≡ 0 → Tally (replicate T (n / T)) (n % T) 0 n begun done n
published_tally T n begun done some fresh none = let cs : List ℕ = replicate T (n / T) in
    let size : length cs ≡ T = length-replicate T (n / T) in let whole : n ≡ n / T * T + n % T = sym (div-add-mod' n T) in record {
      own_at_most = λ t lt. let f = ap (λ (z : ℕ). n / z) size in let g = get_or-replicate T t (n / T) 0 (omega arith) in omega arith;
      rest_at_most = let f = ap (λ (z : ℕ). n % z) size in omega arith;
      unbegun = λ k lt _. subst (λ (z : ℕ). StandsFor z (n / z) (λ t. get_or cs t 0) (n % T) n k) (sym size)
          (all_stand T (n / T) n (n % T) whole (λ t. get_or cs t 0) (λ t at. get_or-replicate T t (n / T) 0 at) k lt);
      left = λ k l. let l' = subst (λ (z : ℕ). StandsFor z (n / z) (λ t. get_or cs t 0) (n % T) n k) size l in
          (stands_below T (n / T) n (n % T) whole (λ t. get_or cs t 0) (n % T) k l', fresh k);
      finished = sym none;
    }

module _ {cs : List ℕ} {rem fin jobs : ℕ} {begun done : List ℕ} {n : ℕ} (some : 0 < length cs) (tally : Tally cs rem fin jobs begun done n) where
  abbrev T : ℕ
  T = length cs

  abbrev d : ℕ
  d = n / length cs

  abbrev at : ℕ → ℕ
  at t = get_or cs t 0

  whole : n ≡ n / length cs * length cs + n % length cs
  whole = sym (div-add-mod' n (length cs))

  -- a number not begun after k was begun
  not_yet : (j k : ℕ) → times j (begun ++ k ∷ []) ≡ 0 → (j ≢ k) × (times j begun ≡ 0)
  not_yet j k z = by_equal j k (λ e. let a = times_same k begun in let b = ap (λ (i : ℕ). times i (begun ++ k ∷ [])) e in absurd (omega arith))
      (λ o. (o, sym (times_else j begun k o) ∙ z))

  -- a claim of counter t
  pub claim_tally : (t k : ℕ) → t < length cs → 0 < get_or cs t 0
      → k ≡ n / length cs * t + n / length cs - get_or cs t 0 → Tally (set cs t (get_or cs t 0 - 1)) rem fin jobs (begun ++ k ∷ []) done n
  claim_tally t k lt pos is = let ds : List ℕ = set cs t (get_or cs t 0 - 1) in let size : length ds ≡ length cs = length-set cs t (get_or cs t 0 - 1) in
      let falls : get_or ds t 0 ≡ get_or cs t 0 - 1 = get_or-set_same cs t (get_or cs t 0 - 1) 0 lt in
      let same : (i : ℕ) → i ≢ t → get_or ds i 0 ≡ get_or cs i 0 = λ i o. get_or-set_other cs t i (get_or cs t 0 - 1) 0 o in record {
        own_at_most = λ i at_i. let f = ap (λ (z : ℕ). n / z) size in let g = tally.own_at_most i (omega arith) in by_equal i t
            (λ e. let a = ap (λ (z : ℕ). get_or ds z 0) e in let b = ap (λ (z : ℕ). get_or cs z 0) e in omega arith) (λ o. let a = same i o in omega arith);
        rest_at_most = let f = ap (λ (z : ℕ). n % z) size in let g = tally.rest_at_most in omega arith;
        unbegun = λ j below z. let y = not_yet j k z in subst (λ (w : ℕ). StandsFor w (n / w) (λ i. get_or ds i 0) rem n j) (sym size)
            (stays_left (length cs) (n / length cs) n (n % length cs) whole (λ i. get_or cs i 0) rem tally.own_at_most tally.rest_at_most
            (λ i. get_or ds i 0) t lt pos falls same j (λ e. y.0 (e ∙ sym is)) (tally.unbegun j below y.1));
        left = λ j l. let y = was_left (length cs) (n / length cs) n (n % length cs) whole (λ i. get_or cs i 0) rem tally.own_at_most tally.rest_at_most
            (λ i. get_or ds i 0) t lt pos falls same j (subst (λ (w : ℕ). StandsFor w (n / w) (λ i. get_or ds i 0) rem n j) size l) in
            ((tally.left j y.0).0, times_else j begun k (λ e. y.1 (e ∙ is)) ∙ (tally.left j y.0).1);
        finished = tally.finished;
      }

  -- a claim of the remainder
  pub rest_tally : (k : ℕ) → 0 < rem → k ≡ n - rem → Tally cs (rem - 1) fin jobs (begun ++ k ∷ []) done n
  rest_tally k pos is = record {
    own_at_most = tally.own_at_most;
    rest_at_most = let g = tally.rest_at_most in omega arith;
    unbegun = λ j below z. let y = not_yet j k z in stays_rest (length cs) (n / length cs) n (n % length cs) whole
        (λ i. get_or cs i 0) rem tally.own_at_most tally.rest_at_most pos j (λ e. y.0 (e ∙ sym is)) (tally.unbegun j below y.1);
    left = λ j l. let y = was_rest (length cs) (n / length cs) n (n % length cs) whole (λ i. get_or cs i 0) rem tally.own_at_most tally.rest_at_most pos j l in
        ((tally.left j y.0).0, times_else j begun k (λ e. y.1 (e ∙ is)) ∙ (tally.left j y.0).1);
    finished = tally.finished;
  }

  -- what they get is left
  pub claimed_left : (t : ℕ) → t < length cs → 0 < get_or cs t 0
      → (n / length cs * t + n / length cs - get_or cs t 0 < jobs) × (times (n / length cs * t + n / length cs - get_or cs t 0) begun ≡ 0)
  claimed_left t lt pos = tally.left (n / length cs * t + n / length cs - get_or cs t 0)
      (first_stands (length cs) (n / length cs) n (n % length cs) whole (λ i. get_or cs i 0) rem t lt (tally.own_at_most t lt) pos)

  pub rested_left : 0 < rem → (n - rem < jobs) × (times (n - rem) begun ≡ 0)
  rested_left pos = tally.left (n - rem) (rest_stands (length cs) (n / length cs) n (n % length cs) whole (λ i. get_or cs i 0) rem tally.rest_at_most pos)

or_false : (a b : Bool) → a ≡ false → b ≡ false → (a || b) ≡ false
or_false true b e f = absurd cc
or_false false b e f = f

module _ {m : Configuration} {s : State} (a : Shows m s) (h : Sound s) (p : ℕ) where
  pub publishes : (b : Bool) (n : ℕ) → IsPublishable s p n → 0 < length m.counters → Shows (publishing m n b) (publish s b n)
  publishes b n ok some = let r : Round = record (now s) { jobs = n; stoppable = b } in
      let none = no_jobs s h p ok.2 (no_closer s h p ok.1) in let unbegun = none_begun h.fate (now s) s.parties h.work none in
      shown (publishing m n b) (publish s b n) r (put_here s.rounds s.round r) (seats a) a.inside a.members a.sense a.closer refl refl a.stopped
      (λ k e. let i : n ≡ k = cc in
      subst (λ (z : ℕ). Tally (replicate (length m.counters) (n / length m.counters)) (n % length m.counters) 0 n (now s).begun (now s).finished z) i
      (published_tally (length m.counters) n (now s).begun (now s).finished some (λ j. (open_is_free h.fate (now s) s.parties h.work j (unbegun j)).0)
      (no_times (now s).finished (λ j. h.work.finished j ∙ ap over (unbegun j)))))

  -- the party as it is once it has taken k
  abbrev holder : ℕ → Party
  holder k = record (party s p) { taken = λ j. (party s p).taken j || only k j }

  abbrev took : ℕ → State
  took k = after s (Take p (only k))

  -- take and begin of a free number are allowed to who may begin
  pub may_take : (k : ℕ) → MayBegin s p → Free s k → Allowed s (Take p (only k)) × Allowed (after s (Take p (only k))) (Begin p k)
  may_take k may free = let look = look_here s.parties p (holder k) in let mine = eq-eqb k k refl in
      let has = ap (λ (z : Party). z.taken k) look ∙ or_right ((party s p).taken k) (only k k) mine in
      let takes : Allowed s (Take p (only k)) = (may.published, may.is_in, may.unseen, (k, mine), λ j e. subst (Free s) (sym (equal_by j k e)) free) in
      (takes, (ap (λ (z : Party). z.status) look ∙ may.is_in, may.unseen, ap (λ (z : Party). z.running) look ∙ may.idle, has))

  pub begins : (k : ℕ) (cs : List ℕ) (rem : ℕ)
      → ((n : ℕ) → s.published ≡ Some n → Tally cs rem m.finished (now s).jobs ((now s).begun ++ k ∷ []) (now s).finished n)
      → Shows (record m { seat = put m.seat p (record (m.seat p) { running = Some k }); counters = cs; remainder = rem })
      (after (after s (Take p (only k))) (Begin p k))
  begins k cs rem tally = let y : Party = record (party (took k) p) { running = Some k; taken = put (party (took k) p).taken k false } in
      let look = look_here s.parties p (holder k) in
      let c₀ = same_counts a h p s.parties (holder k) refl in let c₁ = same_counts a h p (took k).parties y refl in
      works a h p (record (m.seat p) { running = Some k }) (took k).parties y (record (now s) { begun = (now s).begun ++ k ∷ [] }) cs rem m.finished
      record {
        status = a.status p ∙ sym (ap (λ (z : Party). z.status) look);
        running = refl;
        seen = a.seen p;
        untaken = put_all (λ j b. b ≡ false) (party (took k) p).taken k false refl
            (λ j o. ap (λ (z : Party). z.taken j) look ∙ or_false ((party s p).taken j) (only k j) (a.untaken p j) (ne_eqb j k o));
      }
      (λ q o. subst (λ (z : Party). Fits (m.seat q) z ((now s).seen q)) (sym (look_else s.parties p (holder k) q o)) (seats a q)) (c₁.0
      ∙ c₀.0) (c₁.1 ∙ c₀.1) refl refl tally

  module _ (some : 0 < length m.counters) (may : MayBegin s p) where
    -- what a claim gets, while n are published
    claimed_is : (n t : ℕ) → s.published ≡ Some n → claimed m t ≡ own m n * t + own m n - counter m t
    claimed_is n t e = ap (λ (o : Option ℕ). own m (unwrap_or o 0) * t + own m (unwrap_or o 0) - counter m t) (a.published ∙ e)

    rested_is : (n : ℕ) → s.published ≡ Some n → rested m ≡ n - m.remainder
    rested_is n e = ap (λ (o : Option ℕ). unwrap_or o 0 - m.remainder) (a.published ∙ e)

    -- what is left to begin is free
    abbrev IsUnbegun : ℕ → Type 0
    IsUnbegun k = (k < (now s).jobs) × (times k (now s).begun ≡ 0)

    gets : (k : ℕ) → ((n : ℕ) → s.published ≡ Some n → IsUnbegun k) → Free s k
    gets k left = by_option s.published (λ e. absurd (may.published e)) (λ n e. ((left n e).0, (left n e).1, λ q. a.untaken q k))

    pub claims : (t : ℕ) → t < length m.counters
        → 0 < counter m t → Shows (effect m (Claim p t)) (after (after s (Take p (only (claimed m t)))) (Begin p (claimed m t))) × Free s (claimed m t)
    claims t lt pos = let shows = begins (claimed m t) (set m.counters t (counter m t - 1)) m.remainder
        (λ n e. claim_tally some (tally a n e) t (claimed m t) lt pos (claimed_is n t e)) in
        (shows, gets (claimed m t) (λ n e. subst IsUnbegun (sym (claimed_is n t e)) (claimed_left some (tally a n e) t lt pos)))

    pub rests : 0 < m.remainder → Shows (effect m (Rest p)) (after (after s (Take p (only (rested m)))) (Begin p (rested m))) × Free s (rested m)
    rests pos = let shows = begins (rested m) m.counters (m.remainder - 1) (λ n e. rest_tally some (tally a n e) (rested m) pos (rested_is n e)) in
        (shows, gets (rested m) (λ n e. subst IsUnbegun (sym (rested_is n e)) (rested_left some (tally a n e) pos)))
