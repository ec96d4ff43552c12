-- The bits of thread numbers, in words.
use Rattle.std.proofs.Common.{◌≡◌, ◌≢◌, ℕ, ◌+◌, ◌*◌, ◌/◌, ◌%◌, ◌^◌, ◌<◌, List, length, get_or, set, get_or-set_same, get_or-set_other, sym, ap, ◌∙◌, arith}
use Rattle.std.proofs.Common.{bit_and, bit_or}
use Rattle.std.specs.Int.{bit_at}
use Rattle.std.proofs.lemmas.Nat.{pow_below, one_shl, or_disjoint}
use Rattle.std.proofs.lemmas.Nat.Bits.{and_pow}
use Rattle.spindle_parts.specs.ThreadNumbers.{place_of}
use Rattle.spindle_parts.proofs.Parties.{by_equal, by_order}

-- the word of t becomes y, which has the other bits of the old word
module _ (ws : List ℕ) (t y : ℕ) (deep : place_of t < length ws)
    (others : (b : ℕ) → b < 32 → b ≢ t % 32 → bit_at y b ≡ bit_at (get_or ws (place_of t) 0) b) where
  abbrev pub words_after : List ℕ
  words_after = set ws (place_of t) y

  at_place : get_or words_after (place_of t) 0 ≡ y
  at_place = get_or-set_same ws (place_of t) y 0 deep

  at_other : (i : ℕ) → i ≢ place_of t → get_or words_after i 0 ≡ get_or ws i 0
  at_other i n = get_or-set_other ws (place_of t) i y 0 n

  pub own_bit : bit_at (get_or words_after (place_of t) 0) (t % 32) ≡ bit_at y (t % 32)
  own_bit = ap (λ x. bit_at x (t % 32)) at_place

  pub other_bit : (k : ℕ) → k ≢ t → bit_at (get_or words_after (place_of k) 0) (k % 32) ≡ bit_at (get_or ws (place_of k) 0) (k % 32)
  other_bit k n = by_equal (k / 32) (t / 32)
      (λ e.
      let same : place_of k ≡ place_of t = ap (λ (j : ℕ). 8 * j) e in
      ap (λ (i : ℕ). bit_at (get_or words_after i 0) (k % 32)) same
      ∙ ap (λ x. bit_at x (k % 32)) at_place
      ∙ others (k % 32) (omega arith) (λ r. n (omega arith))
      ∙ sym (ap (λ (i : ℕ). bit_at (get_or ws i 0) (k % 32)) same))
      (λ apart. ap (λ x. bit_at x (k % 32)) (at_other (place_of k) (λ e. apart (omega arith))))

  pub still_narrow : y < 4294967296 → ((i : ℕ) → get_or ws i 0 < 4294967296) → (i : ℕ) → get_or words_after i 0 < 4294967296
  still_narrow small all i = by_equal i (place_of t)
      (λ e. let x = ap (λ (j : ℕ). get_or words_after j 0) e ∙ at_place in omega arith)
      (λ n. let x = at_other i n in let lt = all i in omega arith)

-- the bit of n, as a word
abbrev pub mask_of : ℕ → ℕ
mask_of n = 1 * 2 ^ (n % 32) % 2 ^ 64

-- `word | 1 << b`, where the bit isn't set, and `word & !(1 << b)`, where it is
module _ (x b : ℕ) (low : b < 64) where
  pub or_adds : bit_at x b ≡ 0 → bit_or x (1 * 2 ^ b % 2 ^ 64) ≡ x + 2 ^ b
  or_adds e =
      let apart : bit_and x (2 ^ b) ≡ 0 = and_pow x b ∙ ap (λ (d : ℕ). d * 2 ^ b) e ∙ omega arith in
      ap (bit_or x) (one_shl b 64 low) ∙ or_disjoint x (2 ^ b) apart

same_power : (a b : ℕ) → 2 ^ a ≡ 2 ^ b → a ≡ b
same_power a b e = by_order a b
    (λ le. by_order b a (λ ge. omega arith) (λ n. absurd (omega (arith, pow_below a b (omega arith), e))))
    (λ n. absurd (omega (arith, pow_below b a (omega arith), e)))

-- the exchange asks for one number's bit
pub one_asked : (t u x : ℕ) → place_of t ≡ place_of u → x + 2 ^ (t % 32) ≡ x + 2 ^ (u % 32) → t ≡ u
one_asked t u x p e = let r = same_power (t % 32) (u % 32) (omega arith) in omega arith
