-- Each step on a numbers table keeps its rule.
use Rattle.std.proofs.Common.{◌≡◌, ◌≢◌, ⊎_elim, ℕ, zero, suc, ◌*◌, ◌%◌, ◌^◌, ◌<◌, ◌≤◌, List, [], ◌∷◌, ◌++◌, length, get_or, set, length-set, replicate, Bool}
use Rattle.std.proofs.Common.{get_or-set_same, get_or-set_other, eqb, eq-eqb, ne_eqb, sym, refl, ap, ◌∙◌, subst, arith, Some, None, bit_and, bit_or}
use mathlib.Core.Option.{none, some, some-injective, some-ne-none}
use prog.Atomic.{either}
use lib.ListN.{get_elem?}
use lib.Seq.{set-get_or}
use mir.Syntax.{w64}
use Rattle.std.specs.Int.{bit_at, bit_not}
use Rattle.std.proofs.lemmas.List.{length-replicate}
use Rattle.std.proofs.lemmas.Nat.{pow_below, one_shl, or_lt, and_le_l}
use Rattle.std.proofs.lemmas.Nat.Bits.{bit_at-zero, bit_at-pow_other, bit_at_set_same, bit_at_set_other, bit_at_clear_same, bit_at_clear_other}
use Rattle.atomic_table.specs.Table.{State, step, keeps, stepped, opening, Allows, Splits}
use Rattle.atomic_table.proofs.Lists.{at_set, at_snoc, at_longer, set_again, set_else}
use Rattle.spindle_parts.specs.declared.numbers.plays.Holding.TheVariants.{Nothing, Leads, Has}
use Rattle.spindle_parts.specs.declared.numbers.plays.View.{View}
use Rattle.spindle_parts.proofs.NumberBits.{own_bit, other_bit, still_narrow, mask_of, or_adds, one_asked}
use Rattle.spindle_parts.specs.ThreadNumbers.{word_count, place_of, IsSet, number_of, HasNumber, IsNumbering, leader_view, outsider_view, loading, missing, Sat}
use Rattle.spindle_parts.specs.ThreadNumbers.{taking, giving, loaded, taken, given}
use Rattle.spindle_parts.proofs.Parties.{by_equal}

-- ---- views

-- a table's state
abbrev Whole : Type 0
Whole = State (Unit {0}) View

set_at : (l : List View) (i : ℕ) (v w : View) → get_elem? l i ≡ some v → get_elem? (set l i w) i ≡ some w
set_at [] i v w e = absurd (some-ne-none v (sym e))
set_at (x ∷ xs) zero v w e = refl
set_at (x ∷ xs) (suc i) v w e = set_at xs i v w e

-- the number that a seat has is that of its view
one_number : (views : List View) (p : ℕ) (v : View) (k : ℕ) → get_elem? views p ≡ some v → HasNumber views p k → number_of v.holding ≡ Some k
one_number views p v k at h = subst (λ u. number_of u.holding ≡ Some k) (some-injective _ _ (sym h.1 ∙ at)) h.2

-- some seat leads from the first place
abbrev Led : List View → Type 0
Led views = (v : View) × (get_elem? views 0 ≡ some v) × (v.holding ≡ Leads)

-- the seat id, whose view was v, has the view w
module _ (views : List View) (id : ℕ) (v w : View) (at : get_elem? views id ≡ some v) where
  abbrev pub after : List View
  after = set views id w

  -- the others' numbers stay
  pub other_stays : (p k : ℕ) → p ≢ id → HasNumber views p k → HasNumber after p k
  other_stays p k n h = (h.0, set_else views id p w n ∙ h.1, h.2)

  pub own_number : (k : ℕ) → number_of w.holding ≡ Some k → HasNumber after id k
  own_number k e = (w, set_at views id v w at, e)

  -- who has a number is this seat, or had it before
  pub cases : {P : Type 0} (p k : ℕ) → HasNumber after p k → (p ≡ id → number_of w.holding ≡ Some k → P) → (p ≢ id → HasNumber views p k → P) → P
  cases {P} p k h mine others = ⊎_elim
      (λ (t : (p ≡ id) × (w ≡ h.0)). mine t.0 (subst (λ (u : View). number_of u.holding ≡ Some k) (sym t.1) h.2))
      (λ (t : (p ≢ id) × (get_elem? views p ≡ some h.0)). others t.0 (h.0, t.1, h.2))
      (at_set views id p w h.0 h.1)

  -- where the seat's number stays, all do
  pub same_after : w.holding ≡ v.holding → (p k : ℕ) → HasNumber after p k → HasNumber views p k
  same_after e p k h = cases p k h (λ mine is. subst (λ (q : ℕ). HasNumber views q k) (sym mine) (v, at, sym (ap number_of e) ∙ is)) (λ _ has. has)

  pub same_before : w.holding ≡ v.holding → (p k : ℕ) → HasNumber views p k → HasNumber after p k
  same_before e p k h = by_equal p id
      (λ (mine : p ≡ id).
      let had = one_number views id v k at (subst (λ (q : ℕ). HasNumber views q k) mine h) in
      subst (λ (q : ℕ). HasNumber after q k) (sym mine) (own_number k (ap number_of e ∙ had)))
      (λ n. other_stays p k n h)

  pub leader_stays : Led views → (v.holding ≡ Leads → w.holding ≡ Leads) → Led after
  leader_stays led keeps_it = by_equal 0 id
      (λ (mine : 0 ≡ id).
      let at_id : get_elem? views 0 ≡ some v = subst (λ (q : ℕ). get_elem? views q ≡ some v) (sym mine) at in
      let leads : v.holding ≡ Leads = subst (λ (u : View). u.holding ≡ Leads) (some-injective _ _ (sym led.1 ∙ at_id)) led.2 in
      (w, subst (λ (q : ℕ). get_elem? after q ≡ some w) (sym mine) (set_at views id v w at), keeps_it leads))
      (λ n. (led.0, set_else views id 0 w n ∙ led.1, led.2))

-- ---- steps that leave the words and the numbers

pub quiet : (t : ℕ) (s : Whole) → IsNumbering t s → (i id : ℕ) (me : Sat) (w : View) → get_elem? s.views id ≡ some me.0
    → w.holding ≡ me.0.holding → IsNumbering t (stepped s i (get_or s.words i 0) id me.1 w keeps)
quiet t s r i id me w at e =
    let P : List ℕ → Type 0 = λ ws. IsNumbering t record { words = ws; homes = s.homes; views = set s.views id w } in
    subst P (sym (set-get_or s.words i 0)) record {
      leader = leader_stays s.views id me.0 w at r.leader (λ l. e ∙ l);
      differ = λ p q k h g. r.differ p q k (before p k h) (before q k g);
      below = λ p k h. r.below p k (before p k h);
      set = λ p k h. r.set p k (before p k h);
      used = λ k b. let h = r.used k b in (h.0, same_before s.views id me.0 w at e h.0 k h.1);
      narrow = r.narrow;
      wide = r.wide;
    }
  where
    before : (p k : ℕ) → HasNumber (set s.views id w) p k → HasNumber s.views p k
    before = same_after s.views id me.0 w at e

pub loads : (t slots id : ℕ) (me : Sat) (i : ℕ) → Allows (IsNumbering t) slots id me i (λ n. n) (loaded (step slots i 0 0 none) me)
loads t slots id me i s r d at fits =
    let w : View = loading i (get_or s.words i 0) me.0 in
    (w, keeps, tt, quiet t s r i id me w at refl, (refl, refl, r.narrow i))

pub splits : (t id : ℕ) (v : View) → Splits (IsNumbering t) id v v outsider_view
splits t id v s r at =
    let P : List View → Type 0 = λ l. IsNumbering t record { words = s.words; homes = s.homes; views = l ++ more } in
    subst P (sym (set_again s.views id v at)) record {
      leader = let l = r.leader in (l.0, at_longer s.views more 0 l.0 l.1, l.2);
      differ = λ p q k h g. r.differ p q k (before p k h) (before q k g);
      below = λ p k h. r.below p k (before p k h);
      set = λ p k h. r.set p k (before p k h);
      used = λ k b. let h = r.used k b in (h.0, (h.1.0, at_longer s.views more h.0 h.1.0 h.1.1, h.1.2));
      narrow = r.narrow;
      wide = r.wide;
    }
  where
    more : List View
    more = outsider_view ∷ []

    before : (p k : ℕ) → HasNumber (s.views ++ more) p k → HasNumber s.views p k
    before p k h = ⊎_elim
        (λ e. (h.0, e, h.2))
        (λ (e : outsider_view ≡ h.0).
        let z : None ≡ Some k = subst (λ (u : View). number_of u.holding ≡ Some k) (sym e) h.2 in absurd cc)
        (at_snoc s.views outsider_view h.0 p h.1)

-- ---- take and give

some_same : (n k : ℕ) → Some n ≡ Some k → n ≡ k
some_same n k e = cc

module _ (t : ℕ) (s : Whole) (r : IsNumbering t s) (id : ℕ) (me : Sat) (at : get_elem? s.views id ≡ some me.0) (n : ℕ) (below : n < t) where
  deep : place_of n < length s.words
  deep = omega (arith, r.wide)

  abbrev x : ℕ
  x = get_or s.words (place_of n) 0

  in_word : n % 32 < 64
  in_word = omega arith

  -- the seat has no number, and nobody has n
  pub takes_free : me.0.holding ≡ Nothing → bit_at x (n % 32) ≡ 0
      → IsNumbering t (stepped s (place_of n) (bit_or x (mask_of n)) id me.1 (taking n x me.0) keeps)
  takes_free none_yet unset = record {
    leader = leader_stays s.views id me.0 w at r.leader (λ l. absurd (let z = sym none_yet ∙ l in cc));
    differ = λ p q k h g. who p k h
        (λ mine is. who q k g (λ also _. mine ∙ sym also) (λ _ has. absurd (nobody q k is has)))
        (λ _ had. who q k g (λ _ is. absurd (nobody p k is had)) (λ _ has. r.differ p q k had has));
    below = λ p k h. who p k h (λ _ is. let e = some_same n k is in omega arith) (λ _ had. r.below p k had);
    set = λ p k h. who p k h
        (λ _ is. subst (IsSet ws') (some_same n k is) now_set)
        (λ _ had. bit_stays k (λ e. nobody p k (ap (λ (j : ℕ). Some j) (sym e)) had) ∙ r.set p k had);
    used = λ k b. by_equal k n
        (λ (e : k ≡ n). (id, own_number s.views id me.0 w at k (ap (λ (j : ℕ). Some j) (sym e))))
        (λ e. let h = r.used k (sym (bit_stays k e) ∙ b) in (h.0, other_stays s.views id me.0 w at h.0 k (not_mine h.0 k h.1) h.1));
    narrow = still_narrow s.words n y deep others (or_lt 32 x (mask_of n) (r.narrow (place_of n)) small) r.narrow;
    wide = length-set s.words (place_of n) y ∙ r.wide;
  }
    where
      w : View
      w = taking n x me.0

      y : ℕ
      y = bit_or x (mask_of n)

      ws' : List ℕ
      ws' = set s.words (place_of n) y

      small : mask_of n < 2 ^ 32
      small = omega (arith, one_shl (n % 32) 64 in_word, pow_below (n % 32) 32 (omega arith))

      others : (b : ℕ) → b < 32 → b ≢ n % 32 → bit_at y b ≡ bit_at x b
      others b lt other = bit_at_set_other w64 x (n % 32) in_word b other

      bit_stays : (k : ℕ) → k ≢ n → bit_at (get_or ws' (place_of k) 0) (k % 32) ≡ bit_at (get_or s.words (place_of k) 0) (k % 32)
      bit_stays = other_bit s.words n y deep others

      now_set : IsSet ws' n
      now_set = own_bit s.words n y deep others ∙ bit_at_set_same w64 x (n % 32) in_word

      nobody : (p k : ℕ) → Some n ≡ Some k → HasNumber s.views p k → ⊥
      nobody p k is had = let has_n = subst (λ (j : ℕ). HasNumber s.views p j) (sym (some_same n k is)) had in let set = r.set p n has_n in absurd (omega arith)

      not_mine : (p k : ℕ) → HasNumber s.views p k → p ≢ id
      not_mine p k had mine =
          let is = one_number s.views id me.0 k at (subst (λ (q : ℕ). HasNumber s.views q k) mine had) in
          let z = sym is ∙ ap number_of none_yet in absurd cc

      who : {P : Type 0} (p k : ℕ) → HasNumber (set s.views id w) p k → (p ≡ id → Some n ≡ Some k → P) → (p ≢ id → HasNumber s.views p k → P) → P
      who = cases s.views id me.0 w at

  -- the seat has n
  pub gives_back : me.0.holding ≡ Has n → IsNumbering t (stepped s (place_of n) (bit_and x (bit_not w64 (mask_of n))) id me.1 (giving n x me.0) keeps)
  gives_back own = record {
    leader = leader_stays s.views id me.0 w at r.leader (λ l. absurd (let z = sym own ∙ l in cc));
    differ = λ p q k h g. r.differ p q k (before p k h).1 (before q k g).1;
    below = λ p k h. r.below p k (before p k h).1;
    set = λ p k h. let b = before p k h in bit_stays k (kept_apart p k b.0 b.1) ∙ r.set p k b.1;
    used = λ k b.
        let other : k ≢ n = not_given k b in
        let h = r.used k (sym (bit_stays k other) ∙ b) in
        (h.0, other_stays s.views id me.0 w at h.0 k (λ i. other (the_giver k (subst (λ (q : ℕ). HasNumber s.views q k) i h.1))) h.1);
    narrow = still_narrow s.words n y deep others (let le = and_le_l x (bit_not w64 (mask_of n)) in let lt = r.narrow (place_of n) in omega arith) r.narrow;
    wide = length-set s.words (place_of n) y ∙ r.wide;
  }
    where
      w : View
      w = giving n x me.0

      y : ℕ
      y = bit_and x (bit_not w64 (mask_of n))

      ws' : List ℕ
      ws' = set s.words (place_of n) y

      others : (b : ℕ) → b < 32 → b ≢ n % 32 → bit_at y b ≡ bit_at x b
      others b lt other = bit_at_clear_other w64 x (n % 32) in_word b (omega arith) other

      bit_stays : (k : ℕ) → k ≢ n → bit_at (get_or ws' (place_of k) 0) (k % 32) ≡ bit_at (get_or s.words (place_of k) 0) (k % 32)
      bit_stays = other_bit s.words n y deep others

      before : (p k : ℕ) → HasNumber (set s.views id w) p k → (p ≢ id) × HasNumber s.views p k
      before p k h = cases s.views id me.0 w at p k h (λ _ is. absurd (let z = is in cc)) (λ other had. (other, had))

      mine : HasNumber s.views id n
      mine = (me.0, at, ap number_of own)

      kept_apart : (p k : ℕ) → p ≢ id → HasNumber s.views p k → k ≢ n
      kept_apart p k other h e = other (r.differ p id n (subst (λ (j : ℕ). HasNumber s.views p j) e h) mine)

      -- the seat's own number is n
      the_giver : (k : ℕ) → HasNumber s.views id k → k ≡ n
      the_giver k had = some_same k n (sym (one_number s.views id me.0 k at had) ∙ ap number_of own)

      not_given : (k : ℕ) → IsSet ws' k → k ≢ n
      not_given k b e =
          let here = own_bit s.words n y deep others in let cleared = bit_at_clear_same w64 x (n % 32) in_word in
          let still : IsSet ws' n = subst (IsSet ws') e b in
          absurd (omega arith)

pub takes : (t slots id : ℕ) (me : Sat) (n word : ℕ) → n < t → me.0.holding ≡ Nothing → bit_at word (n % 32) ≡ 0 → let y : ℕ = bit_or word (mask_of n) in
    Allows (IsNumbering t) slots id me (place_of n) (λ x. either (eqb x word) y x) (taken (step slots (place_of n) word y none) me)
takes t slots id me n word below none_yet unset s r d at fits =
    let i : ℕ = place_of n in let x : ℕ = get_or s.words i 0 in let y : ℕ = bit_or word (mask_of n) in let won : View = taking n x me.0 in
    let lost : View = missing i x me.0 in let After : View → Bool → Type 0 = λ w b. IsNumbering t (stepped s i (either b y x) id me.1 w keeps) in
    by_equal x word
    (λ (hit : x ≡ word).
    let P : ℕ → Type 0 = λ v. IsNumbering t (stepped s i (bit_or v (mask_of n)) id me.1 won keeps) in
    let still_unset = ap (λ (v : ℕ). bit_at v (n % 32)) hit ∙ unset in
    let sum = or_adds word (n % 32) (omega arith) unset in
    let kept = subst (After won) (sym (eq-eqb x word hit)) (subst P hit (takes_free t s r id me at n below none_yet still_unset)) in
    (won, keeps, tt, kept, (refl, (λ _ u asks. ap (λ (j : ℕ). taking j x me.0) (one_asked n u word asks.0 (sym sum ∙ asks.1))), λ miss. absurd (miss hit))))
    (λ miss. (lost, keeps, tt, subst (After lost) (sym (ne_eqb x word miss)) (quiet t s r i id me lost at refl), (refl, (λ hit. absurd (miss hit)), λ _. refl)))

pub gives : (t slots id : ℕ) (me : Sat) (n : ℕ) → n < t → me.0.holding ≡ Has n → let k : ℕ = bit_not w64 (mask_of n) in
    Allows (IsNumbering t) slots id me (place_of n) (λ x. bit_and x k) (given (step slots (place_of n) k 0 none) me)
gives t slots id me n below own s r d at fits =
    let x : ℕ = get_or s.words (place_of n) 0 in let kept = gives_back t s r id me at n below own in
    (giving n x me.0, keeps, tt, kept, (refl, λ u has. ap (λ (j : ℕ). giving j x me.0) (let e : Has n ≡ Has u = sym own ∙ has in cc)))

-- ---- a fresh table

pub zero_at : (n i : ℕ) → let none_there : ℕ = 0 in get_or (replicate n none_there) i none_there ≡ none_there
zero_at (suc n) (suc i) = zero_at n i
zero_at n i = refl

-- word 0 is 1, and all others are 0
pub opens : (t : ℕ) → 1 ≤ t → IsNumbering t (opening (set (replicate (8 * word_count t) 0) 0 1) [] leader_view)
opens t some_thread = record {
  leader = (leader_view, refl, refl);
  differ = λ p q k h g. (only p k h).0 ∙ sym (only q k g).0;
  below = λ p k h. let e = (only p k h).1 in omega arith;
  set = λ p k h. subst (IsSet ws) (sym (only p k h).1) (ap (λ (x : ℕ). bit_at x 0) first);
  used = λ k b. (0, subst (HasNumber (leader_view ∷ []) 0) (sym (is_zero k b)) (leader_view, refl, refl));
  narrow = small;
  wide = length-set zeros 0 1 ∙ length-replicate {A = ℕ} (8 * word_count t) 0;
}
  where
    zeros : List ℕ
    zeros = replicate (8 * word_count t) 0

    ws : List ℕ
    ws = set zeros 0 1

    first : get_or ws 0 0 ≡ 1
    first = get_or-set_same zeros 0 1 0 (omega (arith, length-replicate {A = ℕ} (8 * word_count t) 0))

    others : (i : ℕ) → i ≢ 0 → get_or ws i 0 ≡ 0
    others i n = get_or-set_other zeros 0 i 1 0 n ∙ zero_at (8 * word_count t) i

    small : (i : ℕ) → get_or ws i 0 < 4294967296
    small i = by_equal i 0 (λ e. let z : get_or ws i 0 ≡ 1 = ap (λ (j : ℕ). get_or ws j 0) e ∙ first in omega arith) (λ n. let z = others i n in omega arith)

    only : (p k : ℕ) → HasNumber (leader_view ∷ []) p k → (p ≡ 0) × (k ≡ 0)
    only zero k h = (refl, sym (some_same 0 k (one_number (leader_view ∷ []) 0 leader_view k refl h)))
    only (suc p) k h = absurd (some-ne-none h.0 (sym h.1))

    is_zero : (k : ℕ) → IsSet ws k → k ≡ 0
    is_zero k b = by_equal (place_of k) 0
        (λ e. by_equal (k % 32) 0
        (λ z. omega arith)
        (λ n.
        let word : get_or ws (place_of k) 0 ≡ 1 = ap (λ (j : ℕ). get_or ws j 0) e ∙ first in
        let a = ap (λ (x : ℕ). bit_at x (k % 32)) word in
        let c = bit_at-pow_other 0 (k % 32) n in absurd (omega arith)))
        (λ n.
        let a = ap (λ (x : ℕ). bit_at x (k % 32)) (others (place_of k) n) in
        let c = bit_at-zero (k % 32) in absurd (omega arith))
