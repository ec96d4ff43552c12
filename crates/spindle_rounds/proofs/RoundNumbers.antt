-- A party takes a set of free numbers and begins one of them in the same step: what becomes of the state and of the counters.
use Rattle.std.proofs.Common.{◌≡◌, ◌≢◌, ◌⊎◌, inl, inr, ⊎_elim, ℕ, ◌<◌, ◌≤◌, Bool, true, false, ◌||◌, List, [], ◌∷◌, ◌++◌, length, get_or, set}
use Rattle.std.proofs.Common.{get_or-set_other, sym, refl, ap, ◌∙◌, subst, arith, Option, Some}
use mathlib.Core.Logic.{dite}
use native.Mathlib.Decide.{ℕ_discrete}
use Rattle.spindle_parts.specs.State.{State, Party, Round, put, now, party, times, Free}
use Rattle.spindle_parts.specs.Steps.{Event, Take, Begin, after}
use Rattle.spindle_parts.specs.Runs.{state, IsRun, IsOnce}
use Rattle.spindle_parts.specs.BarrierWord.{word}
use Rattle.spindle_parts.proofs.Parties.{with_parties, put_here, put_else, put_all, look_here, times_same, times_else}
use Rattle.spindle_parts.proofs.Soundness.{Sound, sound, run_once}
use Rattle.spindle_rounds.specs.RoundSlots.{Begins}
use Rattle.spindle_rounds.specs.RoundShown.{Counters, InRange, InRemainder, IsWithin, Words}
use Rattle.spindle_rounds.proofs.RoundWords.{range_here, range_else, word_stays, taken_put}
use Rattle.spindle_rounds.proofs.RoundChanges.{later_words}
use Rattle.spindle_rounds.specs.Words.{remainder_at, range_at, start_of, end_of}

pub or_false : (a b : Bool) → b ≡ false → (a || b) ≡ a
or_false true b e = refl
or_false false b e = e

pub or_right : (a b : Bool) → b ≡ true → (a || b) ≡ true
or_right true b e = refl
or_right false b e = e

both_false : (a b : Bool) → (a || b) ≡ false → (a ≡ false) × (b ≡ false)
both_false true b e = absurd cc
both_false false b e = (refl, e)

pub true_or : (b : Bool) → (b ≡ true) ⊎ (b ≡ false)
true_or true = inl refl
true_or false = inr refl

-- to the slots k begins, where the record of the round takes it in
pub begins : (S : State) (ps : List Party) (c : Option ℕ) (k n : ℕ) → times k (now S).begun ≡ 0 → times k (now S).finished ≡ 0 → S.published ≡ Some n → k < n
    → Begins S (with_parties S ps c (put S.rounds S.round (record (now S) { begun = (now S).begun ++ k ∷ [] }))) k
begins S ps c k n unbegun unfinished shown below = let R : Round = record (now S) { begun = (now S).begun ++ k ∷ [] } in record {
  round = refl;
  published = refl;
  begun = λ q j o. put_all (λ a y. (a ≢ S.round) ⊎ (j ≢ k) → times j y.begun ≡ times j (S.rounds a).begun) S.rounds S.round R
      (λ o. ⊎_elim (λ (z : S.round ≢ S.round). absurd (z refl)) (λ (z : j ≢ k). times_else j (now S).begun k z) o) (λ a z o. refl) q o;
  finished = λ q j. put_all (λ a y. times j y.finished ≡ times j (S.rounds a).finished) S.rounds S.round R refl (λ a z. refl) q;
  before = unbegun;
  after = (let a = ap (λ (z : Round). times k z.begun) (put_here S.rounds S.round R) in let b = times_same k (now S).begun in omega arith);
  unfinished = unfinished;
  shown = (n, shown, below);
}

-- the party id takes the numbers of `some`, and begins k, which is one of them
module _ (S : State) (id k : ℕ) (some : ℕ → Bool) (mine : some k ≡ true) where
  abbrev pub with_some : Party
  with_some = record (party S id) { taken = λ j. (party S id).taken j || some j }

  abbrev pub taken_first : State
  taken_first = after S (Take id some)

  abbrev pub then_begun : State
  then_begun = after taken_first (Begin id k)

  pub first_party : party taken_first id ≡ with_some
  first_party = look_here S.parties id with_some

  pub last_party : party then_begun id ≡ record (party S id) { running = Some k; taken = put with_some.taken k false }
  last_party = look_here taken_first.parties id (record (party taken_first id) { running = Some k; taken = put (party taken_first id).taken k false }) ∙ ap
      (λ (z : Party). let y : Party = record z { running = Some k; taken = put z.taken k false } in y) first_party

  pub last_round : now then_begun ≡ record (now S) { begun = (now S).begun ++ k ∷ [] }
  last_round = put_here S.rounds S.round (record (now S) { begun = (now S).begun ++ k ∷ [] })

  not_k : (j : ℕ) → some j ≡ false → j ≢ k
  not_k j e z = let a = ap some z in absurd cc

  pub last_taken : (j a : ℕ) → some j ≡ false → (party then_begun a).taken j ≡ (party S a).taken j
  last_taken j a n = taken_put taken_first.parties id (record (party taken_first id) { running = Some k; taken = put (party taken_first id).taken k false }) j
      (put_else (party taken_first id).taken k false j (not_k j n)) a ∙ taken_put S.parties id with_some j (or_false ((party S id).taken j) (some j) n) a

  pub still_free : (j : ℕ) → some j ≡ false → Free S j → Free then_begun j
  still_free j n f = (
    subst (λ (z : Round). j < z.jobs) (sym last_round) f.0,
    ap (λ (z : Round). times j z.begun) last_round ∙ (times_else j (now S).begun k (not_k j n) ∙ f.1),
    λ a. last_taken j a n ∙ f.2 a,
  )

  pub was_free : (j : ℕ) → Free then_begun j → (some j ≡ false) × Free S j
  was_free j f = let c = ap (λ (z : Round). times j z.begun) last_round in
      let fresh : j ≢ k = (λ e. let a = times_same k (now S).begun in let b = ap (λ (z : ℕ). times z ((now S).begun ++ k ∷ [])) e in let d = f.1 in
      absurd (omega arith)) in let out : some j ≡ false = (both_false ((party S id).taken j) (some j)
      (sym (put_else with_some.taken k false j fresh) ∙ (sym (ap (λ (z : Party). z.taken j) last_party) ∙ f.2 id))).1 in
      (out, (subst (λ (z : Round). j < z.jobs) last_round f.0, sym (times_else j (now S).begun k fresh) ∙ (sym c ∙ f.1), λ a. sym (last_taken j a out) ∙ f.2 a))

  -- its status stays, and so do both counts
  pub same_word : word S ≡ word then_begun
  same_word = word_stays S id with_some refl taken_first refl refl ∙ word_stays taken_first id
      (record (party taken_first id) { running = Some k; taken = put (party taken_first id).taken k false }) refl then_begun refl refl

  -- the word i of the counters becomes x
  pub last_words : (t : ℕ) (ws : List ℕ) (i x : ℕ) → remainder_at ≤ i → Words t S ws → ((n : ℕ) → S.published ≡ Some n → Counters t then_begun (set ws i x) n)
      → Words t then_begun (set ws i x)
  last_words t ws i x high w counters = later_words t S then_begun ws i x _ high w refl last_round refl refl refl same_word counters

  -- the counters lose exactly the numbers taken
  pub taken_counters : (t n : ℕ) (ws ws' : List ℕ) → Counters t S ws n → ((i j : ℕ) → i < t → InRange ws' i j → InRange ws i j × (some j ≡ false)) →
      ((j : ℕ) → InRemainder ws' n j → InRemainder ws n j × (some j ≡ false))
      → ((i j : ℕ) → i < t → some j ≡ false → InRange ws i j → InRange ws' i j) → ((j : ℕ) → some j ≡ false → InRemainder ws n j → InRemainder ws' n j)
      → get_or ws' remainder_at 0 ≤ get_or ws remainder_at 0
      → ((i : ℕ) → i < t → start_of (get_or ws' (range_at i) 0) ≤ end_of (get_or ws' (range_at i) 0)) → Counters t then_begun ws' n
  taken_counters t n ws ws' c shrinks rest_shrinks grows rest_grows few ordered = record {
    free = λ j f. let b = was_free j f in ⊎_elim (λ (z : (i : ℕ) × (i < t) × InRange ws i j). inl (z.0, z.1, grows z.0 j z.1 b.0 z.2))
        (λ (z : InRemainder ws n j). inr (rest_grows j b.0 z)) (c.free j b.1);
    ranges = λ i j lt z. let b = shrinks i j lt z in still_free j b.1 (c.ranges i j lt b.0);
    remainder = λ j z. let b = rest_shrinks j z in still_free j b.1 (c.remainder j b.0);
    few = let a = c.few in omega arith;
    home = λ st i j lt z. c.home (sym (ap (λ (y : Round). y.stopped) last_round) ∙ st) i j lt (shrinks i j lt z).0;
    apart = λ a b j x y z w. c.apart a b j x y (shrinks a j x z).0 (shrinks b j y w).0;
    remainder_apart = λ a j x z w. c.remainder_apart a j x (shrinks a j x z).0 (rest_shrinks j w).0;
    ordered = ordered;
  }

  -- a range loses them
  pub range_taken : (t n i old new : ℕ) (ws : List ℕ) → Counters t S ws n → i < t → range_at i < length ws → get_or ws (range_at i) 0 ≡ old →
      ((j : ℕ) → some j ≡ true → IsWithin old j) → ((j : ℕ) → IsWithin new j → IsWithin old j × (some j ≡ false)) →
      ((j : ℕ) → some j ≡ false → IsWithin old j → IsWithin new j)
      → start_of new ≤ end_of new → Counters t then_begun (set ws (range_at i) new) n
  range_taken t n i old new ws c low deep is all less more tidy = let ws' : List ℕ = set ws (range_at i) new in
      let rest_same : get_or ws' remainder_at 0 ≡ get_or ws remainder_at 0 = get_or-set_other ws (range_at i) remainder_at new 0 (λ e. omega arith) in
      let none : (j : ℕ) → (some j ≡ true → ⊥) → some j ≡ false = (λ j n. ⊎_elim (λ e. absurd (n e)) (λ e. e) (true_or (some j))) in taken_counters t n ws ws' c
      (λ a j lt z. dite (ℕ_discrete a i)
      (λ e. let now_is = range_here ws i new a deep e in let b = less j (subst (λ (w : ℕ). IsWithin w j) now_is z) in
      (subst (λ (w : ℕ). IsWithin w j) (sym (ap (λ (b : ℕ). get_or ws (range_at b) 0) e ∙ is)) b.0, b.1))
      (λ other. let z' : InRange ws a j = subst (λ (w : ℕ). IsWithin w j) (range_else ws i new a other) z in
      (z', none j (λ e. other (c.apart a i j lt low z' (subst (λ (w : ℕ). IsWithin w j) (sym is) (all j e)))))))
      (λ j z. let z₀ = z.0 in let z' : InRemainder ws n j = (omega arith, z.1) in
      (z', none j (λ e. c.remainder_apart i j low (subst (λ (w : ℕ). IsWithin w j) (sym is) (all j e)) z')))
      (λ a j lt out z. dite (ℕ_discrete a i)
      (λ e. subst (λ (w : ℕ). IsWithin w j) (sym (range_here ws i new a deep e))
      (more j out (subst (λ (w : ℕ). IsWithin w j) (ap (λ (b : ℕ). get_or ws (range_at b) 0) e ∙ is) z)))
      (λ other. subst (λ (w : ℕ). IsWithin w j) (sym (range_else ws i new a other)) z))
      (λ j out z. let z₀ = z.0 in (omega arith, z.1)) (omega arith)
      (λ a lt. dite (ℕ_discrete a i)
      (λ e. subst (λ (w : ℕ). start_of w ≤ end_of w) (sym (range_here ws i new a deep e)) tidy)
      (λ other. subst (λ (w : ℕ). start_of w ≤ end_of w) (sym (range_else ws i new a other))
      (c.ordered a lt)))

  -- to the slots, k begins
  pub begun_here : (run : List Event) → S ≡ state run → IsRun run → (n : ℕ) → Free S k → S.published ≡ Some n → Begins S then_begun k
  begun_here run is ok n free shown = let once = subst IsOnce (sym is) (run_once run ok) in let h = subst Sound (sym is) (sound run ok) in
      let at_most = (once S.round k).1 in let none_begun = free.1 in
      begins S then_begun.parties S.closer k n free.1 (omega arith) shown (let a = (h.gate.shown n shown).0 in let b = free.0 in omega arith)
