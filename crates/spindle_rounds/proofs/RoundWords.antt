-- The fields of the barrier word, and what the other words show after a step on one of them.
use Rattle.std.proofs.Common.{◌≡◌, ◌≢◌, inl, inr, ⊎_elim, ℕ, ◌+◌, ◌*◌, ◌/◌, ◌%◌, ◌<◌, ◌≤◌, Bool, true, false, eq-eqb, ne_eqb, le-ltb, lt-ltb, List, length}
use Rattle.std.proofs.Common.{get_or, set, length-set, get_or-set_same, get_or-set_other, sym, refl, ap, ◌∙◌, subst, arith, Option, None, ◌==◌, ◌&&◌, nat_lt}
use mathlib.Core.Logic.{dite}
use native.Mathlib.Decide.{ℕ_discrete, dec_le}
use Rattle.spindle_parts.specs.State.{State, Status, Party, Round, party_of, put_party, now, party, times, Free, inside, members, total, absent}
use Rattle.spindle_parts.specs.State.{weight_in, weight_member, is_in, is_member}
use Rattle.spindle_parts.specs.Steps.{with_status}
use Rattle.spindle_parts.specs.BarrierWord.{word}
use Rattle.spindle_parts.proofs.Parties.{look_here, look_else, total_put, inside_le_members}
use Rattle.spindle_parts.proofs.Soundness.{Sound}
use Rattle.spindle_rounds.specs.RoundShown.{Counters, InRange, InRemainder, Words, number_of}
use Rattle.spindle_rounds.specs.Words.{barrier_at, published_at, finished_at, stopped_at, remainder_at, range_at, field_size, one_member, sense_bit, high_half}
use Rattle.spindle_rounds.specs.Words.{start_of, end_of, words_of}

-- where a test of two numbers decides
pub by_less : (a b : ℕ) (P : Bool → Type 0) → (a < b → P true) → (b ≤ a → P false) → P (nat_lt a b)
by_less a b P hit miss = dite (dec_le b a) (λ le. subst P (sym (le-ltb a b le)) (miss le)) (λ no. subst P (sym (lt-ltb a b (omega arith))) (hit (omega arith)))

pub by_equal : (a b : ℕ) (P : Bool → Type 0) → (a ≡ b → P true) → (a ≢ b → P false) → P (a == b)
by_equal a b P hit miss = dite (ℕ_discrete a b) (λ e. subst P (sym (eq-eqb a b e)) (hit e)) (λ n. subst P (sym (ne_eqb a b n)) (miss n))

pub and_false : (b : Bool) → (b && false) ≡ false
and_false true = refl
and_false false = refl

-- the fields of the word
pub record Fields (n a b c : ℕ) : Type 0 where
  pub count : n % field_size ≡ a
  pub most : n / one_member % field_size ≡ b
  pub sense : n / sense_bit ≡ c
  pub small : n < high_half

pub fields : (n a b c : ℕ) → n ≡ a + one_member * b + sense_bit * c → a ≤ 32767 → b ≤ 32767 → c ≤ 1 → Fields n a b c
fields n a b c e x y z = record { count = omega arith; most = omega arith; sense = omega arith; small = omega arith }

-- what a state's word says
pub word_fields : (s : State) → Sound s → (n : ℕ) → n ≡ word s → Fields n (inside s.parties) (members s.parties) (s.round % 2)
word_fields s h n e = let few = h.gate.few in let le = inside_le_members s.parties in let p : ℕ = s.round % 2 in let two : p ≤ 1 = omega arith in
    fields n (inside s.parties) (members s.parties) p e (omega arith) few two

-- a step that leaves the counters' words, and what is free
pub counters_stay : (t : ℕ) (s s' : State) (ws ws' : List ℕ) (n : ℕ) → get_or ws' remainder_at 0 ≡ get_or ws remainder_at 0 →
    ((i : ℕ) → i < t → get_or ws' (range_at i) 0 ≡ get_or ws (range_at i) 0) → ((k : ℕ) → Free s k → Free s' k) → ((k : ℕ) → Free s' k → Free s k) →
    ((now s').stopped ≡ false → (now s).stopped ≡ false)
    → Counters t s ws n → Counters t s' ws' n
counters_stay t s s' ws ws' n rest same on back stopped c = let e₄ = rest in record {
  free = λ k f. ⊎_elim (λ (z : (i : ℕ) × (i < t) × InRange ws i k). inl (z.0, z.1, fore z.0 k z.1 z.2)) (λ (z : InRemainder ws n k). inr (
    (let a = z.0 in omega arith),
    z.1,
  )) (c.free k (back k f));
  ranges = λ i k lt z. on k (c.ranges i k lt (aft i k lt z));
  remainder = λ k z. on k (c.remainder k (rest_aft k z));
  few = let a = c.few in omega arith;
  home = λ st i k lt z. c.home (stopped st) i k lt (aft i k lt z);
  apart = λ i j k a b x y. c.apart i j k a b (aft i k a x) (aft j k b y);
  remainder_apart = λ i k a x y. c.remainder_apart i k a (aft i k a x) (rest_aft k y);
  ordered = λ i lt. subst (λ (w : ℕ). start_of w ≤ end_of w) (sym (same i lt)) (c.ordered i lt);
}
  where
    fore : (i k : ℕ) → i < t → InRange ws i k → InRange ws' i k
    fore i k lt z = subst (λ (w : ℕ). (w % high_half ≤ k) × (k < w / high_half)) (sym (same i lt)) z

    aft : (i k : ℕ) → i < t → InRange ws' i k → InRange ws i k
    aft i k lt z = subst (λ (w : ℕ). (w % high_half ≤ k) × (k < w / high_half)) (same i lt) z

    rest_aft : (k : ℕ) → InRemainder ws' n k → InRemainder ws n k
    rest_aft k z = let e = rest in ((let a = z.0 in omega arith), z.1)

-- one party becomes y, which has taken of k what it had
pub taken_put : (l : List Party) (p : ℕ) (y : Party) (k : ℕ) → y.taken k ≡ (party_of l p).taken k → (a : ℕ)
    → (party_of (put_party l p y) a).taken k ≡ (party_of l a).taken k
taken_put l p y k same a = dite (ℕ_discrete a p) (λ e. subst (λ (z : ℕ). (party_of (put_party l p y) z).taken k ≡ (party_of l z).taken k) (sym e)
    (ap (λ (z : Party). z.taken k) (look_here l p y) ∙ same)) (λ n. ap (λ (z : Party). z.taken k) (look_else l p y a n))

-- while nothing is published the first two words say all
pub hidden_shown : {t : ℕ} {s : State} {ws : List ℕ} → length ws ≡ words_of t → get_or ws barrier_at 0 ≡ word s
    → get_or ws published_at 0 ≡ number_of s.published (now s).stoppable → s.published ≡ None → Words t s ws
hidden_shown wide barrier published hidden = record {
  wide = wide;
  barrier = barrier;
  published = published;
  finished = λ some. absurd (some hidden);
  stopped = λ some. absurd (some hidden);
  counters = λ n e. absurd cc;
  barren = λ _. hidden;
}

module _ (t : ℕ) where
  -- a step on the barrier word alone, which leaves the round and what the parties have taken
  pub barrier_words : (s s' : State) (ws : List ℕ) (x : ℕ) → Words t s ws → now s' ≡ now s → s'.published ≡ s.published →
      ((a k : ℕ) → (party s' a).taken k ≡ (party s a).taken k) → x ≡ word s' → Words t s' (set ws barrier_at x)
  barrier_words s s' ws x w round shown taken is = let wide = w.wide in
      let other : (i : ℕ) → i ≢ 0 → get_or (set ws barrier_at x) i 0 ≡ get_or ws i 0 = (λ i n. get_or-set_other ws barrier_at i x 0 n) in record {
        wide = length-set ws barrier_at x ∙ w.wide;
        barrier = get_or-set_same ws barrier_at x 0 (omega arith) ∙ is;
        published = other published_at (λ e. omega arith) ∙ (w.published ∙ (λ i. number_of (sym shown i) (sym round i).stoppable));
        finished = λ some. other finished_at (λ e. omega arith) ∙ (w.finished (λ e. some (shown ∙ e)) ∙ ap (λ (r : Round). length r.finished) (sym round));
        stopped = λ some. let old = w.stopped (λ e. some (shown ∙ e)) in let same = ap (λ (r : Round). r.stopped) (sym round) in
            ((λ e. other stopped_at (λ e. omega arith) ∙ old.0 (same ∙ e)), (λ e. other stopped_at (λ e. omega arith) ∙ old.1 (same ∙ e)));
        counters = λ n e. counters_stay t s s' ws (set ws barrier_at x) n
            (other remainder_at (λ z. omega arith)) (λ i lt. other (range_at i) (λ z. omega arith))
            (λ k f. freed s s' (sym round) taken k f) (λ k f. freed s' s round (λ a k. sym (taken a k)) k f)
            (λ e. sym (ap (λ (r : Round). r.stopped) round) ∙ e) (w.counters n (sym shown ∙ e));
        barren = λ z. shown ∙ w.barren z;
      }
    where
      freed : (a b : State) → now a ≡ now b → ((q k : ℕ) → (party b q).taken k ≡ (party a q).taken k) → (k : ℕ) → Free a k → Free b k
      freed a b e same k f = (subst (λ (r : Round). k < r.jobs) e f.0, sym (ap (λ (r : Round). times k r.begun) e) ∙ f.1, λ q. same q k ∙ f.2 q)

  -- a change of one party's status
  pub status_words : (s : State) (ws : List ℕ) (p x : ℕ) (st : Status) (c : Option ℕ) → Words t s ws → let s' : State =
      record { round = s.round; parties = put_party s.parties p (with_status st (party s p)); closer = c; published = s.published; rounds = s.rounds } in
      x ≡ word s' → Words t s' (set ws barrier_at x)
  status_words s ws p x st c w is = barrier_words s _ ws x w refl refl (λ a k. taken_put s.parties p (with_status st (party s p)) k refl a) is

-- who keeps its status leaves both counts, and so the barrier word
module _ (s : State) (p : ℕ) (y : Party) (same : y.status ≡ (party s p).status) where
  counts : (w : Party → ℕ) → w absent ≡ 0 → w y ≡ w (party s p) → total w (put_party s.parties p y) ≡ total w s.parties
  counts w z e = let a = total_put w z s.parties p y in omega arith

  pub word_stays : (s' : State) → s'.round ≡ s.round → s'.parties ≡ put_party s.parties p y → word s ≡ word s'
  word_stays s' round parties = let a = ap inside parties ∙ counts weight_in refl (ap is_in same) in
      let b = ap members parties ∙ counts weight_member refl (ap is_member same) in λ i. sym a i + one_member * sym b i + sense_bit * (sym round i % 2)

-- the word of a range after a store, and those of the others
pub range_here : (ws : List ℕ) (i new a : ℕ) → range_at i < length ws → a ≡ i → get_or (set ws (range_at i) new) (range_at a) 0 ≡ new
range_here ws i new a deep e = ap (λ (b : ℕ). get_or (set ws (range_at i) new) (range_at b) 0) e ∙ get_or-set_same ws (range_at i) new 0 deep

pub range_else : (ws : List ℕ) (i new a : ℕ) → a ≢ i → get_or (set ws (range_at i) new) (range_at a) 0 ≡ get_or ws (range_at a) 0
range_else ws i new a other = get_or-set_other ws (range_at i) (range_at a) new 0 (λ e. other (omega arith))
