-- Buffers for the outputs of pieces: one that is filled, one more that is made, and those that are left.
use Rattle.std.proofs.Common.{◌≡◌, ◌≢◌, ℕ, ◌+◌, ◌<◌, ◌≤◌, List, [], ◌∷◌, ◌++◌, Vec, vec_len, vec_capacity, length, get_or, set, inr, ⊎_elim, ap, sym, ◌∙◌}
use Rattle.std.proofs.Common.{subst, arith}
use Rattle.std.specs.List.{AllZip, Any}
use Rattle.std.proofs.lemmas.Bool.{cases_eq}
use Rattle.std.proofs.lemmas.List.{get_or-set_same, get_or-set_other, get_or_append_left, get_or_push, length-set}
use Rattle.std.proofs.lemmas.Slice.Zip.{AllZip-long}
use Rattle.spindle_locks.specs.PieceRuns.{piece_at}
use Rattle.spindle_locks.specs.Reports.{AreBuffers, IsBufferFor}
use Rattle.spindle_locks.specs.Rounds.{AddsAnswers}
use Rattle.spindle_locks.specs.Stops.{HasFailedIn}

-- an empty buffer is large enough
pub buffer_fits : {A B Z : Type 0} (Meets : A → B → Type 0) (items : List A) (buffer : Vec B Z) → IsBufferFor Meets items buffer → vec_len buffer ≡ 0
    → length buffer.items ≡ 0 → vec_len buffer + length items ≤ vec_capacity buffer
buffer_fits Meets items buffer h short none =
    ⊎_elim (λ fresh. let c = fresh.1 in omega arith) (λ done. let long = AllZip-long Meets items buffer.items done in omega arith) h

-- what ran in an empty buffer answers the items
pub buffer_answers : {A B : Type 0} (Meets : A → B → Type 0) (items : List A) (old new : List B) → old ≡ [] → AddsAnswers Meets items old new
    → AllZip Meets items new
buffer_answers Meets items old new e adds = subst (AllZip Meets items) (sym (adds.2 ∙ ap (λ xs. xs ++ adds.0) e)) adds.1

-- and a buffer that isn't empty holds them
pub buffer_done : {A B Z : Type 0} (Meets : A → B → Type 0) (items : List A) (buffer : Vec B Z) → IsBufferFor Meets items buffer → (buffer.items ≡ [] → ⊥)
    → AllZip Meets items buffer.items
buffer_done Meets items buffer h full = ⊎_elim (λ fresh. absurd (full fresh.0)) (λ done. done) h

module _ {A B Z : Type 0} (Meets : A → B → Type 0) (items : List A) (n : ℕ) where
  -- the buffer of a piece
  pub buffer_at : (buffers : List (Vec B Z)) (from k : ℕ) (buffer : Vec B Z) → from ≤ k → k < n → buffer ≡ get_or buffers k buffer
      → AreBuffers Meets items n from buffers
      → IsBufferFor Meets (piece_at items n k) buffer
  buffer_at buffers from k buffer le lt e h = subst (IsBufferFor Meets (piece_at items n k)) (sym e) (h.1 k buffer le lt)

  -- one buffer is filled
  pub buffers_set : (buffers : List (Vec B Z)) (k : ℕ) (buffer : Vec B Z) → k < n → AllZip Meets (piece_at items n k) buffer.items
      → AreBuffers Meets items n 0 buffers
      → AreBuffers Meets items n 0 (set buffers k buffer)
  buffers_set buffers k buffer lt answered h = let long = h.0 in (
    length-set buffers k buffer ∙ h.0,
    λ j d le below. ⊎_elim
        (λ (e : j ≡ k). subst (λ i. IsBufferFor Meets (piece_at items n i) (get_or (set buffers k buffer) i d)) (sym e)
        (subst (IsBufferFor Meets (piece_at items n k)) (sym (get_or-set_same buffers k buffer d (omega arith))) (inr answered)))
        (λ (e : j ≢ k). subst (IsBufferFor Meets (piece_at items n j)) (sym (get_or-set_other buffers k j buffer d e)) (h.1 j d le below))
        (cases_eq j k),
  )

  -- one buffer is emptied, those behind it stay
  pub buffers_taken : (buffers : List (Vec B Z)) (k : ℕ) (buffer : Vec B Z) → AreBuffers Meets items n k buffers
      → AreBuffers Meets items n (k + 1) (set buffers k buffer)
  buffers_taken buffers k buffer h = (
    length-set buffers k buffer ∙ h.0,
    λ j d le below. subst (IsBufferFor Meets (piece_at items n j)) (sym (get_or-set_other buffers k j buffer d (λ e. omega (arith, le, e))))
        (h.1 j d (omega (arith, le)) below),
  )

  -- one buffer more is made
  pub buffers_more : (buffers : List (Vec B Z)) (k : ℕ) (buffer : Vec B Z) → length buffers ≡ k → IsBufferFor Meets (piece_at items n k) buffer
      → ((j : ℕ) (d : Vec B Z) → j < k → IsBufferFor Meets (piece_at items n j) (get_or buffers j d)) → (j : ℕ) (d : Vec B Z) → j < k + 1
      → IsBufferFor Meets (piece_at items n j) (get_or (buffers ++ buffer ∷ []) j d)
  buffers_more buffers k buffer long fits h j d lt = ⊎_elim
      (λ (e : j ≡ k). subst (IsBufferFor Meets (piece_at items n j)) (sym (get_or_push buffers buffer d j (long ∙ sym e)))
      (subst (λ i. IsBufferFor Meets (piece_at items n i) buffer) (sym e) fits))
      (λ (e : j ≢ k). let below : j < k = omega (arith, e, lt) in
      subst (IsBufferFor Meets (piece_at items n j)) (sym (get_or_append_left buffers (buffer ∷ []) d j (omega (arith, long, below)))) (h j d below))
      (cases_eq j k)

module _ {B Z : Type 0} (Fails : B → Type 0) where
  -- a buffer in which a piece ran has its failure still
  pub failed_kept : (buffers : List (Vec B Z)) (k f : ℕ) (old new : Vec B Z) → old ≡ get_or buffers k old → (Any Fails old.items → Any Fails new.items)
      → HasFailedIn Fails 0 f buffers → HasFailedIn Fails 0 f (set buffers k new)
  failed_kept buffers k f old new is keeps h from lt d = let long = length-set buffers k new in ⊎_elim
      (λ (e : f ≡ k). subst (λ i. Any Fails (get_or (set buffers k new) i d).items) (sym e)
      (subst (λ (r : Vec B Z). Any Fails r.items) (sym (get_or-set_same buffers k new d (omega (arith, lt, long, e))))
      (keeps (subst (λ (r : Vec B Z). Any Fails r.items) (sym is)
      (subst (λ i. Any Fails (get_or buffers i old).items) e (h from (omega (arith, lt, long)) old))))))
      (λ (e : f ≢ k). subst (λ (r : Vec B Z). Any Fails r.items) (sym (get_or-set_other buffers k f new d e)) (h from (omega (arith, lt, long)) d))
      (cases_eq f k)

  -- a piece has failed in its buffer
  pub failed_set : (buffers : List (Vec B Z)) (k : ℕ) (new : Vec B Z) → Any Fails new.items → HasFailedIn Fails 0 k (set buffers k new)
  failed_set buffers k new any from lt d = let long = length-set buffers k new in
      subst (λ (r : Vec B Z). Any Fails r.items) (sym (get_or-set_same buffers k new d (omega (arith, lt, long)))) any

  -- one buffer is emptied, those behind it stay
  pub failed_past : (buffers : List (Vec B Z)) (k f : ℕ) (new : Vec B Z) → HasFailedIn Fails k f buffers → HasFailedIn Fails (k + 1) f (set buffers k new)
  failed_past buffers k f new h from lt d = let long = length-set buffers k new in
      subst (λ (r : Vec B Z). Any Fails r.items) (sym (get_or-set_other buffers k f new d (λ e. omega (arith, from, e))))
      (h (omega (arith, from)) (omega (arith, lt, long)) d)
