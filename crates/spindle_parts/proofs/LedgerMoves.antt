-- What the table asks of each kind of step on the ledger, of a fresh table, and of a new seat.
use Rattle.std.proofs.Common.{◌≡◌, ◌≢◌, ⊎_elim, ℕ, zero, suc, ◌+◌, ◌-◌, ◌%◌, ◌^◌, ◌<◌, ◌≤◌, Bool, true, false, eqb, List, [], ◌∷◌, ◌++◌, length, get_or, set}
use Rattle.std.proofs.Common.{get_or-set_same, get_or-set_other, sum_by, sym, refl, ap, ◌∙◌, subst, arith}
use Rattle.std.proofs.lemmas.List.Sums.{sum_by_push}
use mathlib.Core.Option.{none, some, some-injective, some-ne-none}
use lib.ListN.{get_elem?}
use lib.Seq.{set-get_or}
use mir.Val.{bool_byte}
use prog.Atomic.{either}
use Rattle.atomic_table.specs.Table.{Act, step, opening, keeps, stepped, Valid, carried_after, Allows, Splits}
use Rattle.atomic_table.proofs.Lists.{at_snoc, set_again, exchanged}
use Rattle.spindle_parts.specs.Trail.{trace}
use Rattle.spindle_parts.specs.declared.requests.plays.Kind.{Kind}
use Rattle.spindle_parts.specs.declared.requests.plays.Kind.TheVariants.{Load, Announce, Ask, Subtract, Install, Take, Miss, Close}
use Rattle.spindle_parts.specs.declared.requests.plays.Account.{Account}
use Rattle.spindle_parts.specs.Ledger.{place_word, IsFlag, gain, cost, opened, removed, IsCredit, onto, opened_at, removed_at, unfilled, total}
use Rattle.spindle_parts.specs.LedgerSteps.{noted, blank, loading, announcing, asking, subtracting, installing, taking, missing, closing, loaded, announced}
use Rattle.spindle_parts.specs.LedgerSteps.{asked, subtracted, installed, taken, closed}
use Rattle.spindle_parts.proofs.LedgerKept.{flag_within, M, Table, Rule, total_same, elsewhere, at_slot}
use Rattle.spindle_parts.proofs.Parties.{by_equal}

-- a flag as its word
pub one_or_none : (b : Bool) → bool_byte b ≤ 1
one_or_none true = omega arith
one_or_none false = omega arith

adds_none : (f : Account → ℕ) (l : List Account) → f blank ≡ 0 → sum_by f (l ++ blank ∷ []) ≡ sum_by f l
adds_none f l e = let a = sum_by_push f l blank in omega arith

module _ (slots : ℕ) where
  -- a step that leaves its word and moves nothing
  stays : (s : Table) (r : Rule slots s) (i id : ℕ) (me : M) (k : Kind)
      → let x : ℕ = get_or s.words i 0 in get_elem? s.views id ≡ some me.0 → cost k ≡ 0 → gain k x ≡ 0 → opened k ≡ 0 → removed k x ≡ 0
      → Rule slots (stepped s i x id me.1 (noted me.0.credit (trace i k x x) me.0) keeps)
  stays s r i id me k at costs gains opens removes = let x : ℕ = get_or s.words i 0 in
      elsewhere slots s r i x id me me.0.credit (trace i k x x) at (omega arith) opens removes (λ j. here (place_word j))
      (λ t t' is more. here 0 ∙ is ∙ ap (λ (z : ℕ). z % 2 ^ 64) (omega arith)) (λ j f. subst (λ (z : ℕ). z ≤ 1) (sym (here j)) (r.flags j f))
    where
      here : (j : ℕ) → get_or (set s.words i (get_or s.words i 0)) j 0 ≡ get_or s.words j 0
      here j = ap (λ (l : List ℕ). get_or l j 0) (set-get_or s.words i 0)

  pub loads : (n id : ℕ) (me : M) (i : ℕ) → Allows (Rule slots) n id me i (λ x. x) (loaded (step n i 0 0 none) me)
  loads n id me i s r _ at _ = (loading i (get_or s.words i 0) me.0, keeps, tt, stays s r i id me Load at refl refl refl refl, (refl, refl, λ f. r.flags i f))

  pub announces : (n id : ℕ) (me : M) (i flag : ℕ) → IsFlag i → flag ≤ 1
      → Allows (Rule slots) n id me i (λ _. flag) (λ _. announced (step n i flag 0 none) me flag)
  announces n id me i flag is small s r _ at _ = let wide = r.wide in let within = flag_within i is in
      let other : (j : ℕ) → j ≢ i → get_or (set s.words i flag) j 0 ≡ get_or s.words j 0 = (λ j ne. get_or-set_other s.words i j flag 0 ne) in
      let kept = elsewhere slots s r i flag id me me.0.credit (trace i Announce flag flag) at refl refl refl (λ j. other (place_word j) (λ e. omega arith))
      (λ t t' eq more. other 0 (λ e. omega arith) ∙ eq ∙ ap (λ (z : ℕ). z % 2 ^ 64) (omega arith))
      (λ j f. by_equal j i
      (λ (e : j ≡ i). subst (λ (z : ℕ). get_or (set s.words i flag) z 0 ≤ 1) (sym e)
      (let here = get_or-set_same s.words i flag 0 (omega arith) in omega arith)) (λ ne. subst (λ (z : ℕ). z ≤ 1) (sym (other j ne)) (r.flags j f))) in
      (announcing i flag me.0, keeps, tt, kept, (refl, refl))

  -- a step on the word of requests, which moves the credit alike
  at_requests : (s : Table) (r : Rule slots s) (id new c : ℕ) (me : M) (k : Kind)
      → let x : ℕ = get_or s.words 0 0 in get_elem? s.views id ≡ some me.0 → c + cost k ≡ me.0.credit + gain k x → opened k ≡ 0 → removed k x ≡ 0
      → ((t t' : ℕ) → x ≡ t % 2 ^ 64 → t' + me.0.credit ≡ t + c → new ≡ t' % 2 ^ 64)
      → Rule slots (stepped s 0 new id me.1 (noted c (trace 0 k x new) me.0) keeps)
  at_requests s r id new c me k at credit opens removes moves = let wide = r.wide in
      let same : (j : ℕ) → j ≢ 0 → get_or (set s.words 0 new) j 0 ≡ get_or s.words j 0 = (λ j ne. get_or-set_other s.words 0 j new 0 ne) in
      elsewhere slots s r 0 new id me c (trace 0 k (get_or s.words 0 0) new) at credit opens removes (λ j. same (place_word j) (λ e. omega arith))
      (λ t t' is more. get_or-set_same s.words 0 new 0 (omega arith) ∙ moves t t' is more)
      (λ j f. let at = flag_within j f in subst (λ (z : ℕ). z ≤ 1) (sym (same j (λ e. omega arith))) (r.flags j f))

  pub asks : (n id : ℕ) (me : M) (k : ℕ) → Allows (Rule slots) n id me 0 (λ x. (x + k) % 2 ^ 64) (asked (step n 0 k 0 none) me)
  asks n id me k s r _ at _ = let x : ℕ = get_or s.words 0 0 in
      let kept = at_requests s r id ((x + k) % 2 ^ 64) (me.0.credit + k) me (Ask k) at (omega arith) refl refl (λ t t' is more. omega arith) in
      (asking k x me.0, keeps, tt, kept, (refl, refl))

  pub subtracts : (n id : ℕ) (me : M) (k : ℕ) → k < 2 ^ 64 → k ≤ me.0.credit
      → Allows (Rule slots) n id me 0 (λ x. (x + (2 ^ 64 - k)) % 2 ^ 64) (subtracted (step n 0 k 0 none) me)
  subtracts n id me k small covered s r _ at _ = let x : ℕ = get_or s.words 0 0 in
      let kept = at_requests s r id ((x + (2 ^ 64 - k)) % 2 ^ 64) (me.0.credit - k) me (Subtract k) at (omega arith) refl refl (λ t t' is more. omega arith) in
      (subtracting k x me.0, keeps, tt, kept, (refl, refl))

  pub installs : (n id : ℕ) (me : M) (k m : ℕ) → k < slots → m ≤ me.0.credit
      → Allows (Rule slots) n id me (place_word k) (λ x. (x + m) % 2 ^ 64) (installed (step n (place_word k) m 0 none) me)
  installs n id me k m low covered s r _ at _ = let x : ℕ = get_or s.words (place_word k) 0 in let new : ℕ = (x + m) % 2 ^ 64 in
      let kept = at_slot slots s r (place_word k) new id me (me.0.credit - m) (trace (place_word k) (Install m) x new) at k low refl refl refl refl
      (omega arith) (λ u is. (omega arith, omega arith)) in
      (installing (place_word k) m x me.0, keeps, tt, kept, (refl, refl))

  pub closes : (n id : ℕ) (me : M) (k : ℕ) → k < slots → Allows (Rule slots) n id me (place_word k) (λ _. 0) (closed (step n (place_word k) 0 0 none) me)
  closes n id me k low s r _ at _ = let x : ℕ = get_or s.words (place_word k) 0 in
      let kept = at_slot slots s r (place_word k) 0 id me (me.0.credit + x) (trace (place_word k) Close x 0) at k low refl refl refl refl (omega arith)
      (λ u is. (omega arith, omega arith)) in
      (closing (place_word k) x me.0, keeps, tt, kept, (refl, refl))

  pub takes : (n id : ℕ) (me : M) (k old : ℕ) → k < slots → 0 < old
      → Allows (Rule slots) n id me (place_word k) (λ x. either (eqb x old) (old - 1) x) (taken (step n (place_word k) old (old - 1) none) me)
  takes n id me k old low some_left s r _ at _ = let i : ℕ = place_word k in let x : ℕ = get_or s.words i 0 in
      let told = taken (step n i old (old - 1) none) me x in
      exchanged x old (old - 1)
      (λ (z : ℕ). (w : Account) × (a : Act (Unit {0})) × Valid s.homes me.1 a × Rule slots (stepped s i z id me.1 w a) × told (w, carried_after me.1 a))
      (λ hit. let kept = at_slot slots s r i (old - 1) id me (me.0.credit + 1) (trace i Take x (x - 1)) at k low refl refl refl refl (omega arith)
      (λ u is. (omega arith, omega arith)) in
      (taking i x me.0, keeps, tt, kept, (refl, (λ _. refl), λ miss. absurd (miss hit))))
      (λ miss. (missing i x me.0, keeps, tt, stays s r i id me Miss at refl refl refl refl, (refl, (λ hit. absurd (miss hit)), λ _. refl)))

  pub splits : (id : ℕ) (v : Account) → Splits (Rule slots) id v v blank
  splits id v s r at = subst (λ (l : List Account). Rule slots record { words = s.words; homes = s.homes; views = l ++ blank ∷ [] })
      (sym (set_again s.views id v at)) record {
        wide = r.wide;
        credits = λ p u e. ⊎_elim (r.credits p u) (λ (h : blank ≡ u). subst IsCredit h refl) (at_snoc s.views blank u p e);
        never_below = λ j lt. let a = opened_still j in let b = removed_still j in let h = r.never_below j lt in omega arith;
        places = λ j lt. r.places j lt ∙ ap (λ (z : ℕ). z % 2 ^ 64) (sym (as_before j));
        requests = r.requests
            ∙ ap (λ (z : ℕ). z % 2 ^ 64)
            (let a = total_same (unfilled (s.views ++ blank ∷ [])) (unfilled s.views) slots (λ j _. as_before j) in
            let b = adds_none (λ u. u.credit) s.views refl in omega arith);
        flags = r.flags;
      }
    where
      opened_still : (j : ℕ) → opened_at j (s.views ++ blank ∷ []) ≡ opened_at j s.views
      opened_still j = adds_none (λ u. sum_by (onto j (λ x. opened x.kind)) u.trail) s.views refl

      removed_still : (j : ℕ) → removed_at j (s.views ++ blank ∷ []) ≡ removed_at j s.views
      removed_still j = adds_none (λ u. sum_by (onto j (λ x. removed x.kind x.found)) u.trail) s.views refl

      as_before : (j : ℕ) → unfilled (s.views ++ blank ∷ []) j ≡ unfilled s.views j
      as_before j = let a = opened_still j in let b = removed_still j in omega arith

  pub opens : (ws : List ℕ) (xs : List (Unit {0})) → length ws ≡ place_word slots
      → ((i : ℕ) → i ≢ 16 → get_or ws i 0 ≡ 0) → get_or ws 16 0 ≤ 1 → Rule slots (opening ws xs blank)
  opens ws xs wide zeros rest = record {
    wide = wide;
    credits = first;
    never_below = λ i lt. omega arith;
    places = λ i lt. zeros (place_word i) (λ e. omega arith);
    requests = zeros 0 (λ e. omega arith) ∙ ap (λ (z : ℕ). z % 2 ^ 64) (sym (nothing slots));
    flags = λ j f. ⊎_elim (λ (h : j ≡ 8). let z = zeros j (λ e. omega arith) in omega arith)
        (λ (h : j ≡ 16). subst (λ (z : ℕ). get_or ws z 0 ≤ 1) (sym h) rest) f;
  }
    where
      first : (p : ℕ) (v : Account) → get_elem? (blank ∷ []) p ≡ some v → IsCredit v
      first zero v e = subst IsCredit (some-injective blank v e) refl
      first (suc p) v e = absurd (some-ne-none v (sym e))

      nothing : (n : ℕ) → total (unfilled (blank ∷ [])) n + 0 ≡ 0
      nothing zero = refl
      nothing (suc n) = let a = nothing n in omega arith
