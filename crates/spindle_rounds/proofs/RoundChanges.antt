-- What the words show after a step of a member on any word but the first two.
use Rattle.std.proofs.Common.{◌≡◌, ◌≢◌, ℕ, ◌<◌, ◌≤◌, true, false, List, length, get_or, set, length-set, get_or-set_other, sym, ap, ◌∙◌, arith, Some, None}
use Rattle.spindle_parts.specs.State.{State, Round, In, now, party}
use Rattle.spindle_parts.specs.BarrierWord.{word}
use Rattle.spindle_parts.proofs.Soundness.{Sound, no_closer}
use Rattle.spindle_rounds.specs.RoundShown.{Counters, Words, number_of}
use Rattle.spindle_rounds.specs.Words.{barrier_at, published_at, finished_at, stopped_at, remainder_at}

-- the word i becomes x, while the number published and the barrier word stay
pub changed_words : (t : ℕ) (S S' : State) (ws : List ℕ) (i x : ℕ) → finished_at ≤ i → Words t S ws → S'.published ≡ S.published → (now S').stoppable ≡
    (now S).stoppable → word S ≡ word S'
    → (S.published ≢ None → get_or (set ws i x) finished_at 0 ≡ length (now S').finished)
    → (S.published ≢ None → ((now S').stopped ≡ true → get_or (set ws i x) stopped_at 0 ≡ 1) ×
    ((now S').stopped ≡ false → get_or (set ws i x) stopped_at 0 ≡ 0))
    → ((n : ℕ) → S.published ≡ Some n → Counters t S' (set ws i x) n) → Words t S' (set ws i x)
changed_words t S S' ws i x high w shown may same_word finished stopped counters = record {
  wide = length-set ws i x ∙ w.wide;
  barrier = get_or-set_other ws i barrier_at x 0 (λ e. omega arith) ∙ (w.barrier ∙ same_word);
  published = get_or-set_other ws i published_at x 0 (λ e. omega arith) ∙ (w.published ∙ (λ j. number_of (sym shown j) (sym may j)));
  finished = λ some. finished (λ e. some (shown ∙ e));
  stopped = λ some. stopped (λ e. some (shown ∙ e));
  counters = λ n e. counters n (sym shown ∙ e);
  barren = λ z. shown ∙ w.barren z;
}

-- the same of a word of the counters, where the round's record r says the same of stops and of what has finished
pub later_words : (t : ℕ) (S S' : State) (ws : List ℕ) (i x : ℕ) (r : Round) → remainder_at ≤ i → Words t S ws → S'.published ≡ S.published → now S' ≡ r
    → r.stoppable ≡ (now S).stoppable → r.finished ≡ (now S).finished → r.stopped ≡ (now S).stopped → word S ≡ word S'
    → ((n : ℕ) → S.published ≡ Some n → Counters t S' (set ws i x) n) → Words t S' (set ws i x)
later_words t S S' ws i x r high w shown round may finished stopped same_word counters =
    let other : (j : ℕ) → j < remainder_at → get_or (set ws i x) j 0 ≡ get_or ws j 0 = (λ j lt. get_or-set_other ws i j x 0 (λ e. omega arith)) in
    let on = ap (λ (z : Round). z.stopped) round ∙ stopped in
    changed_words t S S' ws i x (omega arith) w shown (ap (λ (z : Round). z.stoppable) round ∙ may) same_word
    (λ some. other finished_at (omega arith) ∙ (w.finished some ∙ sym (ap (λ (z : Round). length z.finished) round ∙ ap length finished)))
    (λ some. let old = w.stopped some in
    ((λ e. other stopped_at (omega arith) ∙ old.0 (sym on ∙ e)), (λ e. other stopped_at (omega arith) ∙ old.1 (sym on ∙ e)))) counters

-- a member of a round with jobs finds a number published
pub some_published : (S : State) → Sound S → (p : ℕ) → (party S p).status ≡ In → 0 < (now S).jobs → S.published ≢ None
some_published S h p at_in some e = let z = h.gate.hidden e (no_closer S h p at_in) in omega arith
