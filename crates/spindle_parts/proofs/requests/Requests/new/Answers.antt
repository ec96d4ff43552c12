-- The words of a fresh ledger are 0, but that rest is announced.
use Rattle.std.proofs.Common.{ap, ◌≡◌, ◌∙◌, arith, get_or, get_or-set_same, get_or-set_other, ℕ, List, []}
use Rattle.spindle_parts.proofs.LedgerMoves.{opens}
use Rattle.spindle_parts.proofs.NumbersKept.{zero_at}
use Rattle.spindle_parts.proofs.requests.Requests.new.Goals as goal

pub of_words-requires : goal.of_words-requires
of_words-requires c = let ws : List ℕ = c.in_ok-words.words.items in let made = c.in_ok-words.ensures in let is = c.as_slice.ensures.value in
    let long = c.in_ok-words.words.ok in
    let zeros : (i : ℕ) → get_or ws i 0 ≡ 0 =
    (λ i. ap (λ (l : List ℕ). get_or l i 0) (made.items_if_clones_equal (λ y z. z)) ∙ zero_at c.saturating_add-count.result i) in
    opens _ _ []
    (c.as_slice.ensures.len
    ∙ (let a = made.len in let b = c.saturating_add-count.ensures in let d = c.saturating_mul.ensures in let e = c.in_ok-words.words.small in
    let f = long.0 in let g = long.1 in omega arith))
    (λ i off. ap (λ (l : List ℕ). get_or l i 0) is ∙ get_or-set_other ws 16 i 1 0 off ∙ zeros i)
    (let here = ap (λ (l : List ℕ). get_or l 16 0) is
    ∙ get_or-set_same ws 16 1 0 (let a = made.len in let b = c.saturating_add-count.ensures in let f = long.0 in omega arith) in omega arith)
