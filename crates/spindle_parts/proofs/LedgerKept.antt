-- Every step on the ledger keeps the books in balance.
use Rattle.std.proofs.Common.{inl, inr, ◌≡◌, ◌≢◌, ⊎_elim, ℕ, zero, suc, ◌+◌, ◌-◌, ◌%◌, ◌^◌, ◌<◌, ◌≤◌, Bool, eq-eqb, ne_eqb, List, [], ◌∷◌, length, length-set}
use Rattle.std.proofs.Common.{get_or, ap, set, get_or-set_same, get_or-set_other, sum_by, sym, refl, ◌∙◌, subst, arith, if◌then◌else◌}
use Rattle.std.proofs.lemmas.List.Sums.{sum_by-cons, sum_by-set}
use mathlib.Core.Option.{some, some-injective, some-ne-none}
use lib.ListN.{get_elem?}
use Rattle.atomic_table.specs.Table.{State, Me, keeps, stepped}
use Rattle.atomic_table.proofs.Lists.{at_set}
use Rattle.spindle_parts.specs.declared.trail.Trace.{Trace}
use Rattle.spindle_parts.specs.declared.requests.plays.Kind.{Kind}
use Rattle.spindle_parts.specs.declared.requests.plays.Account.{Account}
use Rattle.spindle_parts.specs.Ledger.{place_word, IsFlag, gain, cost, opened, removed, IsCredit, onto, over_trails, opened_at, removed_at, unfilled, total}
use Rattle.spindle_parts.specs.Ledger.{standing, Balanced}
use Rattle.spindle_parts.specs.LedgerSteps.{noted}
use Rattle.spindle_parts.proofs.Parties.{by_equal}

abbrev pub Log : Type 0
Log = Trace Kind

abbrev pub M : Type 0
M = Me (Unit {0}) Account

abbrev pub Table : Type 0
Table = State (Unit {0}) Account

-- a seat's account, as `get_or` shows it
found_at : (l : List Account) (i : ℕ) (v : Account) → get_elem? l i ≡ some v → (i < length l) × (get_or l i v ≡ v)
found_at [] i v e = absurd (some-ne-none v (sym e))
found_at (x ∷ xs) zero v e = (omega arith, some-injective x v e)
found_at (x ∷ xs) (suc i) v e = let h = found_at xs i v e in (let lt = h.0 in omega arith, h.1)

-- a sum over all seats where one seat's account changes
sum_by_seat : (f : Account → ℕ) (l : List Account) (i : ℕ) (v w : Account) → get_elem? l i ≡ some v → sum_by f (set l i w) + f v ≡ sum_by f l + f w
sum_by_seat f l i v w e = let h = found_at l i v e in subst (λ (z : Account). sum_by f (set l i w) + f z ≡ sum_by f l + f w) h.1 (sum_by-set f l i w v h.0)

-- a sum over all trails grows by the new step
sum_by_trails : (g : Log → ℕ) (l : List Account) (i : ℕ) (v : Account) (c : ℕ) (x : Log) → get_elem? l i ≡ some v
    → over_trails g (set l i (noted c x v)) ≡ over_trails g l + g x
sum_by_trails g l i v c x e = let a = sum_by_seat (λ u. sum_by g u.trail) l i v (noted c x v) e in let b = sum_by-cons g x v.trail in omega arith

pub total_same : (f g : ℕ → ℕ) (n : ℕ) → ((i : ℕ) → i < n → f i ≡ g i) → total f n ≡ total g n
total_same f g zero h = refl
total_same f g (suc n) h = let a = total_same f g n (λ i lt. h i (omega arith)) in let b = h n (omega arith) in omega arith

-- two sums that differ at one place
total_but : (f g : ℕ → ℕ) (n k : ℕ) → k < n → ((i : ℕ) → i < n → i ≢ k → f i ≡ g i) → total f n + g k ≡ total g n + f k
total_but f g zero k lt h = absurd (omega arith)
total_but f g (suc n) k lt h = by_equal n k
    (λ (e : n ≡ k). let a = total_same f g n (λ i lt. h i (omega arith) (λ z. omega arith)) in
    subst (λ (z : ℕ). total f n + f n + g z ≡ total g n + g n + f z) e (omega arith))
    (λ ne. let a = total_but f g n k (omega arith) (λ i lt. h i (omega arith)) in let b = h n (omega arith) ne in omega arith)

pub flag_within : (i : ℕ) → IsFlag i → (8 ≤ i) × (i ≤ 16)
flag_within i (inl e) = (omega arith, omega arith)
flag_within i (inr e) = (omega arith, omega arith)

onto_here : (i : ℕ) (f : Log → ℕ) (x : Log) → x.word ≡ place_word i → onto i f x ≡ f x
onto_here i f x e = ap (λ (b : Bool). if b then f x else 0) (eq-eqb x.word (place_word i) e)

onto_else : (i : ℕ) (f : Log → ℕ) (x : Log) → x.word ≢ place_word i → onto i f x ≡ 0
onto_else i f x n = ap (λ (b : Bool). if b then f x else 0) (ne_eqb x.word (place_word i) n)

onto_none : (i : ℕ) (f : Log → ℕ) (x : Log) → f x ≡ 0 → onto i f x ≡ 0
onto_none i f x e = by_equal x.word (place_word i) (λ h. onto_here i f x h ∙ e) (onto_else i f x)

module _ (slots : ℕ) where
  abbrev pub Rule : Table → Type 0
  Rule = Balanced slots

  -- the seat's credit after the step x is c, and the word i becomes new
  module _ (s : Table) (r : Rule s) (i new id : ℕ) (me : M) (c : ℕ) (x : Log) (at : get_elem? s.views id ≡ some me.0) where
    abbrev pub V : List Account
    V = set s.views id (noted c x me.0)

    abbrev pub W : List ℕ
    W = set s.words i new

    abbrev pub Result : Type 0
    Result = Rule (stepped s i new id me.1 (noted c x me.0) keeps)

    credit_after : c + cost x.kind ≡ me.0.credit + gain x.kind x.found → IsCredit (noted c x me.0)
    credit_after e = let a = r.credits id me.0 at in let b = sum_by-cons (λ (y : Log). cost y.kind) x me.0.trail in
        let d = sum_by-cons (λ (y : Log). gain y.kind y.found) x me.0.trail in omega arith

    opened_after : (j : ℕ) → opened_at j V ≡ opened_at j s.views + onto j (λ y. opened y.kind) x
    opened_after j = sum_by_trails (onto j (λ y. opened y.kind)) s.views id me.0 c x at

    removed_after : (j : ℕ) → removed_at j V ≡ removed_at j s.views + onto j (λ y. removed y.kind y.found) x
    removed_after j = sum_by_trails (onto j (λ y. removed y.kind y.found)) s.views id me.0 c x at

    kept : c + cost x.kind ≡ me.0.credit + gain x.kind x.found → ((j : ℕ) → j < slots → removed_at j V ≤ opened_at j V)
        → ((j : ℕ) → j < slots → get_or W (place_word j) 0 ≡ unfilled V j % 2 ^ 64)
        → get_or W 0 0 ≡ standing slots V % 2 ^ 64 → ((j : ℕ) → IsFlag j → get_or W j 0 ≤ 1) → Result
    kept credit below places requests flags = record {
      wide = length-set s.words i new ∙ r.wide;
      credits = λ p v e. ⊎_elim (λ (h : (p ≡ id) × (noted c x me.0 ≡ v)). subst IsCredit h.1 (credit_after credit))
          (λ (h : (p ≢ id) × (get_elem? s.views p ≡ some v)). r.credits p v h.1) (at_set s.views id p (noted c x me.0) v e);
      never_below = below;
      places = places;
      requests = requests;
      flags = flags;
    }

    -- a step that opens no place and removes none
    pub elsewhere : c + cost x.kind ≡ me.0.credit + gain x.kind x.found → opened x.kind ≡ 0 → removed x.kind x.found ≡ 0
        → ((j : ℕ) → get_or W (place_word j) 0 ≡ get_or s.words (place_word j) 0)
        → ((t t' : ℕ) → get_or s.words 0 0 ≡ t % 2 ^ 64 → t' + me.0.credit ≡ t + c → get_or W 0 0 ≡ t' % 2 ^ 64) → ((j : ℕ) → IsFlag j → get_or W j 0 ≤ 1)
        → Result
    elsewhere credit none_opened none_removed others requests = kept credit
        (λ j lt. let a = opened_after j in let b = removed_after j in let z = no_opened j in let y = no_removed j in let h = r.never_below j lt in
        omega arith)
        (λ j lt. others j ∙ r.places j lt ∙ ap (λ (z : ℕ). z % 2 ^ 64) (sym (as_before j)))
        (let sums = sum_by_seat (λ v. v.credit) s.views id me.0 (noted c x me.0) at in
        let same = total_same (unfilled V) (unfilled s.views) slots (λ j lt. as_before j) in
        requests (standing slots s.views) (standing slots V) r.requests (omega arith))
      where
        no_opened : (j : ℕ) → onto j (λ y. opened y.kind) x ≡ 0
        no_opened j = onto_none j (λ y. opened y.kind) x none_opened

        no_removed : (j : ℕ) → onto j (λ y. removed y.kind y.found) x ≡ 0
        no_removed j = onto_none j (λ y. removed y.kind y.found) x none_removed

        as_before : (j : ℕ) → unfilled V j ≡ unfilled s.views j
        as_before j = let a = opened_after j in let b = removed_after j in let z = no_opened j in let y = no_removed j in omega arith

    -- a step at the slot k, which moves between its places and the credit
    pub at_slot : (k : ℕ) → k < slots → i ≡ place_word k → x.word ≡ place_word k → cost x.kind ≡ opened x.kind
        → gain x.kind x.found ≡ removed x.kind x.found → c + opened x.kind ≡ me.0.credit + removed x.kind x.found
        → ((u : ℕ) → get_or s.words (place_word k) 0 ≡ u % 2 ^ 64
        → (removed x.kind x.found ≤ u + opened x.kind) × (new ≡ (u + opened x.kind - removed x.kind x.found) % 2 ^ 64)) → Result
    at_slot k low here there costs gains moved goes = let wide = r.wide in let most = r.never_below k low in
        let g = goes (unfilled s.views k) (r.places k low) in let g₀ = g.0 in
        let a = opened_after k in let b = removed_after k in let z = onto_here k (λ y. opened y.kind) x there in
        let y = onto_here k (λ y. removed y.kind y.found) x there in
        let other : (j : ℕ) → j ≢ place_word k → get_or W j 0 ≡ get_or s.words j 0 = (λ j ne. get_or-set_other s.words i j new 0 (λ e. ne (e ∙ here))) in
        kept (omega arith)
        (λ j lt. by_equal j k (λ (e : j ≡ k). subst (λ (z : ℕ). removed_at z V ≤ opened_at z V) (sym e) (omega arith))
        (λ ne. let h = r.never_below j lt in let o = opened_else j ne in let m = removed_else j ne in omega arith))
        (λ j lt. by_equal j k
        (λ (e : j ≡ k). subst (λ (z : ℕ). get_or W (place_word z) 0 ≡ unfilled V z % 2 ^ 64) (sym e)
        (ap (λ (z : ℕ). get_or W z 0) (sym here) ∙ get_or-set_same s.words i new 0 (omega arith) ∙ g.1 ∙ ap (λ (z : ℕ). z % 2 ^ 64) (omega arith)))
        (λ ne. other (place_word j) (λ e. ne (omega arith)) ∙ r.places j lt ∙ ap (λ (z : ℕ). z % 2 ^ 64) (sym (as_before j ne))))
        (let sums = sum_by_seat (λ v. v.credit) s.views id me.0 (noted c x me.0) at in
        let parts = total_but (unfilled V) (unfilled s.views) slots k low (λ j lt ne. as_before j ne) in
        other 0 (λ e. omega arith) ∙ r.requests ∙ ap (λ (z : ℕ). z % 2 ^ 64) (omega arith))
        (λ j f. let at = flag_within j f in subst (λ (z : ℕ). z ≤ 1) (sym (other j (λ e. omega arith))) (r.flags j f))
      where
        apart : (j : ℕ) → j ≢ k → x.word ≢ place_word j
        apart j ne e = ne (let t = there in omega arith)

        opened_else : (j : ℕ) → j ≢ k → opened_at j V ≡ opened_at j s.views
        opened_else j ne = let a = opened_after j in let z = onto_else j (λ y. opened y.kind) x (apart j ne) in omega arith

        removed_else : (j : ℕ) → j ≢ k → removed_at j V ≡ removed_at j s.views
        removed_else j ne = let a = removed_after j in let z = onto_else j (λ y. removed y.kind y.found) x (apart j ne) in omega arith

        as_before : (j : ℕ) → j ≢ k → unfilled V j ≡ unfilled s.views j
        as_before j ne = let a = opened_else j ne in let b = removed_else j ne in omega arith
