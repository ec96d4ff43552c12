-- The exchanges with which a thief takes the last half of a range, and with which the remainder falls.
use Rattle.std.proofs.Common.{◌≡◌, ◌⊎◌, inl, inr, ⊎_elim, ℕ, ◌+◌, ◌-◌, ◌/◌, ◌%◌, ◌<◌, ◌≤◌, true, false, eq-eqb, ne_eqb, div-add-mod', List, get_or, set}
use Rattle.std.proofs.Common.{get_or-set_same, get_or-set_other, sym, refl, ap, subst, arith, if◌then◌else◌, nat_lt}
use Rattle.spindle_parts.specs.EverySchedule.{only}
use Rattle.spindle_rounds.specs.RoundSlots.{Discipline, Lawful}
use Rattle.spindle_rounds.specs.RoundShown.{InRange, InRemainder, IsWithin}
use Rattle.spindle_rounds.specs.Words.{remainder_at, range_at, high_half, start_of, end_of, length_of, range_word}
use Rattle.spindle_rounds.specs.RoundSteps.{half_of, stolen_from, stealing, claiming_remainder, number_or}
use Rattle.spindle_rounds.specs.RoundTells.{StealTells, RemainderClaimTells}
use Rattle.spindle_rounds.specs.RoundConditions.{MayClaim}
use Rattle.spindle_rounds.specs.RoundRuns.{Exchange, claim_of, last_half}
use Rattle.spindle_rounds.proofs.RoundMoves.{SeatOf, begins_by}
use Rattle.spindle_rounds.proofs.RoundWords.{by_less, by_equal}
use Rattle.spindle_rounds.proofs.RoundNumbers.{range_taken, taken_counters}
use Rattle.spindle_rounds.proofs.KeptClaims.{Taking, takes, one_of, other_than}

-- The last half of a range.

half_bounds : (l : ℕ) → 0 < l → (1 ≤ half_of l) × (half_of l ≤ l)
half_bounds l some = by_equal (l / 2) 0 (λ b. (1 ≤ (if b then 1 else l / 2)) × ((if b then 1 else l / 2) ≤ l)) (λ _. (omega arith, omega arith))
    (λ n. (omega arith, omega arith))

pub half_within : (old : ℕ) → start_of old < end_of old → (start_of old ≤ stolen_from old) × (stolen_from old < end_of old)
half_within old left = let h = half_bounds (length_of old) (omega arith) in let h₀ = h.0 in let h₁ = h.1 in (omega arith, omega arith)

half_in : (old j : ℕ) → last_half old j ≡ true → (stolen_from old ≤ j) × (j < end_of old)
half_in old j = by_less j (stolen_from old) (λ b. (if b then false else nat_lt j (end_of old)) ≡ true → (stolen_from old ≤ j) × (j < end_of old))
    (λ _ z. absurd cc)
    (λ le. by_less j (end_of old) (λ b. b ≡ true → (stolen_from old ≤ j) × (j < end_of old)) (λ lt _. (le, lt)) (λ _ z. absurd cc))

half_out : (old j : ℕ) → last_half old j ≡ false → (j < stolen_from old) ⊎ (end_of old ≤ j)
half_out old j = by_less j (stolen_from old) (λ b. (if b then false else nat_lt j (end_of old)) ≡ false → (j < stolen_from old) ⊎ (end_of old ≤ j))
    (λ lt _. inl lt)
    (λ le. by_less j (end_of old) (λ b. b ≡ false → (j < stolen_from old) ⊎ (end_of old ≤ j)) (λ _ z. absurd cc) (λ past _. inr past))

half_yes : (old j : ℕ) → stolen_from old ≤ j → j < end_of old → last_half old j ≡ true
half_yes old j low high = by_less j (stolen_from old) (λ b. (if b then false else nat_lt j (end_of old)) ≡ true) (λ lt. absurd (omega arith))
    (λ _. by_less j (end_of old) (λ b. b ≡ true) (λ _. refl) (λ le. absurd (omega arith)))

half_no : (old j : ℕ) → j < stolen_from old → last_half old j ≡ false
half_no old j lt = by_less j (stolen_from old) (λ b. (if b then false else nat_lt j (end_of old)) ≡ false) (λ _. refl) (λ le. absurd (omega arith))

half : (t n i old : ℕ) → i < t → old < 18446744073709551616 → start_of old < end_of old
    → Taking t n (range_at i) old (range_word (start_of old) (stolen_from old)) (stolen_from old) (stolen_from old + 1) (end_of old) (last_half old)
half t n i old low small left = let w = half_within old left in let w₀ = w.0 in let w₁ = w.1 in let k : ℕ = stolen_from old in let a : ℕ = start_of old in
    let z : ℕ = end_of old in let new : ℕ = range_word a k in let a_is : old % high_half ≡ a = refl in let z_is : old / high_half ≡ z = refl in
    let a_small : a < high_half = omega arith in let start_is : new % high_half ≡ a = shrunk a k a_small in
    let end_is : new / high_half ≡ k = shrunk_end a k a_small in
    let within : (j : ℕ) → last_half old j ≡ true → IsWithin old j = (λ j e. let h = half_in old j e in let h₀ = h.0 in let h₁ = h.1 in
    (omega arith, omega arith)) in record {
      high = omega arith;
      mine = half_yes old k (omega arith) w₁;
      free = λ S ws c hit j e. c.ranges i j low (subst (λ (w : ℕ). IsWithin w j) (sym hit) (within j e));
      less = λ S id ws c wide hit. range_taken S id k (last_half old) (half_yes old k (omega arith) w₁) t n i old new ws c low (omega arith) hit within
          (λ j y. let y₀ = y.0 in let y₁ = y.1 in ((omega arith, omega arith), half_no old j (omega arith)))
          (λ j out y. let y₀ = y.0 in let y₁ = y.1 in ⊎_elim (λ (lt : j < k). (omega arith, omega arith)) (λ (le : z ≤ j). absurd (omega arith))
          (half_out old j out)) (omega arith);
      kept = λ j. (
        (λ e apart. let h = half_in old j e in let h₀ = h.0 in let h₁ = h.1 in (omega arith, h₁)),
        (λ y. let y₀ = y.0 in let y₁ = y.1 in (half_yes old j (omega arith) y₁, λ e. omega arith)),
      );
    }
  where
    shrunk : (a k : ℕ) → a < high_half → range_word a k % high_half ≡ a
    shrunk a k lt = omega arith

    shrunk_end : (a k : ℕ) → a < high_half → range_word a k / high_half ≡ k
    shrunk_end a k lt = omega arith

-- The remainder's last number.

last_one : (t n old from to k : ℕ) → k ≡ n - old → 0 < old → to ≤ from → Taking t n remainder_at old (old - 1) k from to (only k)
last_one t n old from to k is some empty = let mine : only k k ≡ true = eq-eqb k k refl in let e = div-add-mod' n t in record {
  high = omega arith;
  mine = mine;
  free = λ S ws c hit j on. let same = one_of k j on in let few = c.few in let hit' = hit in c.remainder j (omega arith, omega arith);
  less = λ S id ws c wide hit. let ws' : List ℕ = set ws remainder_at (old - 1) in let few = c.few in
      let now_is : get_or ws' remainder_at 0 ≡ old - 1 = get_or-set_same ws remainder_at (old - 1) 0 (omega arith) in
      let other : (i : ℕ) → get_or ws' (range_at i) 0 ≡ get_or ws (range_at i) 0 =
      (λ i. get_or-set_other ws remainder_at (range_at i) (old - 1) 0 (λ z. omega arith)) in
      let rest_k : InRemainder ws n k = (let h = hit in (omega arith, omega arith)) in taken_counters S id k (only k) mine t n ws ws' c
      (λ i j lt z. let z' : InRange ws i j = subst (λ (w : ℕ). IsWithin w j) (other i) z in
      (z', ne_eqb j k (λ same. c.remainder_apart i j lt z' (subst (InRemainder ws n) (sym same) rest_k))))
      (λ j z. let h = hit in let z₀ = z.0 in let z₁ = z.1 in ((omega arith, z₁), ne_eqb j k (λ same. omega arith)))
      (λ i j lt out z. subst (λ (w : ℕ). IsWithin w j) (sym (other i)) z)
      (λ j out z. let h = hit in let apart = other_than k j out in let z₀ = z.0 in let z₁ = z.1 in (omega arith, z₁))
      (let h = hit in omega arith)
      (λ i lt. subst (λ (w : ℕ). start_of w ≤ end_of w) (sym (other i)) (c.ordered i lt));
  kept = λ j. ((λ on apart. absurd (apart (one_of k j on))), (λ z. let z₀ = z.0 in let z₁ = z.1 in absurd (omega arith)));
}

module _ {X N : Type 0} (D : Discipline X N) (law : Lawful D) (t : ℕ) where
  pub steals : (slots id : ℕ) (me : SeatOf D t) (i old first : ℕ) → i < t → MayClaim me.0 → old < 18446744073709551616 → start_of old < end_of old
      → first ≡ stolen_from old
      → Exchange D t slots id me (range_at i) old (range_word (start_of old) first) (claim_of id (stolen_from old) (last_half old)) (StealTells D)
  steals slots id me i old first low may small left is = let word : ℕ = range_at i in let rest : ℕ → ℕ = range_word (start_of old) in
      subst (λ (k : ℕ). Exchange D t slots id me word old (rest k) (claim_of id (stolen_from old) (last_half old)) (StealTells D)) (sym is)
      (begins_by D law t slots id me word old (rest (stolen_from old)) (claim_of id (stolen_from old) (last_half old)) stolen_from (stealing word)
      (takes D law t slots id me may.0.0 may.1.0 word old (rest (stolen_from old)) (stolen_from old) (stolen_from old + 1) (end_of old) (last_half old)
      (half t may.1.0 i old low small left) may.0.1 may.1.1 may.0.2 may.0.3 may.2))

  pub remainder_claims : (slots id : ℕ) (me : SeatOf D t) (old : ℕ) → MayClaim me.0 → 0 < old
      → let k : ℕ = number_or me.0.known.number - old in Exchange D t slots id me remainder_at old (old - 1) (claim_of id k (only k)) (RemainderClaimTells D)
  remainder_claims slots id me old may some = let n : ℕ = number_or me.0.known.number in let is : n ≡ may.1.0 = ap number_or may.1.1 in
      begins_by D law t slots id me remainder_at old (old - 1) (claim_of id (n - old) (only (n - old))) (λ found. n - found) (claiming_remainder n)
      (takes D law t slots id me may.0.0 may.1.0 remainder_at old (old - 1) (n - old) me.0.from me.0.to (only (n - old))
      (last_one t may.1.0 old me.0.from me.0.to (n - old) (ap (λ (z : ℕ). z - old) is) some may.0.3) may.0.1 may.1.1 may.0.2 may.0.3 may.2)
