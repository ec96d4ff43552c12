-- A pass strip by strip is a pass over all values.
use Rattle.std.proofs.Common.{◌≡◌, ◌==◌, ℕ, zero, suc, ◌+◌, ◌<◌, ◌≤◌, Bool, true, false, ◌&&◌, List, [], ◌∷◌, ◌++◌, length, take, drop, get_or, refl, ap, sym, ◌∙◌, arith, add-one, rules}
use Rattle.std.proofs.Math.Seq.{take-append_seam}
use Rattle.std.specs.Prelude.{All}
use Rattle.std.proofs.lemmas.List.{nil_from_length}
use Rattle.std.proofs.lemmas.List.Elements.{All-head, All-tail, All-cons}
use Rattle.std.specs.List.{AllZip}
use mathlib.Core.Bool.{true≢false}
use Rattle.std.specs.Cmp.Lexicographic.{pointwise}
use Rattle.spindle_parts.specs.Same.{equal_lists_are_same}
use Rattle.spindle_parts.specs.Strips.{first_of, last_of, items_of, told}
use Rattle.spindle_parts.specs.declared.lists.strips.Strip.{Strip}
use Rattle.spindle.specs.declared.kernels.passing.Note.{Note}
use Rattle.spindle.specs.Passes.{passed, passed_times, settled_after, NoneSettled, HavePassed, IsNotedBy, all_settled, IsPassedOver}

-- the first value of two lists
first_append : {V : Type 0} (xs ys : List V) (d : V) → get_or (xs ++ ys) 0 d ≡ get_or xs 0 (get_or ys 0 d)
first_append [] ys d = refl
first_append (x ∷ xs) ys d = refl

-- truth of three in a row
and_assoc : (a b c : Bool) → (a && b) && c ≡ a && (b && c)
and_assoc true b c = refl
and_assoc false b c = refl

-- a list whose length is tested to be 0
pub empty_list : {V : Type 0} (len : ℕ) (values : List V) → true ≡ (len == 0) → len ≡ length values → values ≡ []
empty_list len values is long = let none : len ≡ 0 = search rules in nil_from_length values (sym long ∙ none)

-- strips that were told what stands around them, where a slice of all was told
pub told_all : {V N : Type 0} (n : ℕ) (e : V) (strips slice now : List (Strip V N)) → n ≡ length now → now ≡ told e slice e → slice ≡ strips
    → take n (now ++ drop (length now) strips) ≡ told e strips e
told_all n e strips slice now long is same =
    ap (λ n. take n (now ++ drop (length now) strips)) long ∙ take-append_seam now (drop (length now) strips) ∙ is ∙ ap (λ l. told e l e) same

module _ {V : Type 0} (f : V → V → V → V) (s : V → V → Bool) where
  -- two lists after one pass, each between what stands around it
  pub passed_append : (b : V) (xs ys : List V) (e : V) → passed f b (xs ++ ys) e ≡ passed f b xs (get_or ys 0 e) ++ passed f (last_of b xs) ys e
  passed_append b [] ys e = refl
  passed_append b (x ∷ xs) ys e =
      ap (λ n. f b x n ∷ passed f x (xs ++ ys) e) (first_append xs ys e)
      ∙ ap (λ l. f b x (get_or xs 0 (get_or ys 0 e)) ∷ l) (passed_append x xs ys e)

  -- two lists have settled where each has
  pointwise-passed : (b : V) (xs : List V) (e : V) (ys zs : List V)
      → pointwise s (xs ++ ys) (passed f b xs e ++ zs) ≡ pointwise s xs (passed f b xs e) && pointwise s ys zs
  pointwise-passed b [] e ys zs = refl
  pointwise-passed b (x ∷ xs) e ys zs =
      ap (λ t. s x (f b x (first_of xs e)) && t) (pointwise-passed x xs e ys zs)
      ∙ sym (and_assoc (s x (f b x (first_of xs e))) (pointwise s xs (passed f x xs e)) (pointwise s ys zs))

module _ {V K : Type 0} (f : K → V → V → V → V) (s : K → V → V → Bool) (kernel : K) where
  -- what strips became, that were told what stands around them
  pub strips_passed : (b e : V) (old new : List (Strip V (Note K))) → All (IsNotedBy kernel) old → AllZip (IsPassedOver f s) (told b old e) new
      → (items_of new ≡ passed (f kernel) b (items_of old) e)
      × All (IsNotedBy kernel) new
      × (all_settled new ≡ pointwise (s kernel) (items_of old) (items_of new))
  strips_passed b e [] [] k z = (refl, k, refl)
  strips_passed b e [] (n ∷ new) k z = absurd z
  strips_passed b e (o ∷ old) [] k z = absurd z
  strips_passed b e (o ∷ old) (n ∷ new) k z =
      let values : List V = o.items.items in
      let behind : V = first_of (items_of old) e in
      let here : o.note.kernel ≡ kernel = All-head (IsNotedBy kernel) o old k in
      let rest = strips_passed (last_of b values) e old new (All-tail (IsNotedBy kernel) o old k) z.1 in
      let one : n.items.items ≡ passed (f kernel) b values behind = z.0.1 ∙ ap (λ k. passed (f k) b values behind) here in
      let settled : n.note.settled ≡ pointwise (s kernel) values (passed (f kernel) b values behind) =
      z.0.2 ∙ ap (λ k. pointwise (s k) values n.items.items) here ∙ ap (pointwise (s kernel) values) one in
      let items : items_of (n ∷ new) ≡ passed (f kernel) b values behind ++ items_of new = ap (λ l. l ++ items_of new) one in (
        items ∙ ap (λ l. passed (f kernel) b values behind ++ l) rest.0 ∙ sym (passed_append (f kernel) (s kernel) b values (items_of old) e),
        All-cons (IsNotedBy kernel) n new (z.0.0 ∙ here) rest.1,
        ap (λ t. t && all_settled new) settled
            ∙ ap (λ t. pointwise (s kernel) values (passed (f kernel) b values behind) && t) rest.2
            ∙ sym (pointwise-passed (f kernel) (s kernel) b values behind (items_of old) (items_of new))
            ∙ ap (pointwise (s kernel) (items_of (o ∷ old))) (sym items),
      )

  -- one pass more
  pub one_pass_more : (start : List V) (e : V) (n : ℕ) (old new : List (Strip V (Note K))) → All (IsNotedBy kernel) old
      → items_of old ≡ passed_times (f kernel) e n start → AllZip (IsPassedOver f s) (told e old e) new
      → (items_of new ≡ passed_times (f kernel) e (suc n) start)
      × All (IsNotedBy kernel) new
      × (all_settled new ≡ settled_after (f kernel) (s kernel) e (suc n) start)
  one_pass_more start e n old new k before z =
      let all = strips_passed e e old new k z in
      let items : items_of new ≡ passed_times (f kernel) e (suc n) start = all.0 ∙ ap (λ l. passed (f kernel) e l e) before in
      (items, all.1, all.2 ∙ ap (λ l. pointwise (s kernel) l (items_of new)) before ∙ ap (pointwise (s kernel) (passed_times (f kernel) e n start)) items)

module _ {V : Type 0} (f : V → V → V → V) (s : V → V → Bool) (e : V) where
  -- passes that end since all values have settled
  pub ends_settled : (most n : ℕ) (start new : List V) → suc n ≤ most → new ≡ passed_times f e (suc n) start → true ≡ settled_after f s e (suc n) start
      → NoneSettled f s e (suc n) start → HavePassed f s e most start (suc n) true new
  ends_settled most n start new few items settled none = (items, few, settled, (λ not. absurd (true≢false not)), none)

  -- passes that end since there may be no more
  pub ends_at_most : (most : ℕ) (start new : List V) → new ≡ passed_times f e most start → NoneSettled f s e (suc most) start
      → HavePassed f s e most start most false new
  ends_at_most most start new items none = (items, omega arith, sym none.1, (λ _. refl), none.0)

  -- passes over no values
  passed_none : (n : ℕ) → passed_times f e n [] ≡ []
  passed_none zero = refl
  passed_none (suc n) = ap (λ l. passed f e l e) (passed_none n)

  -- they have settled after the first one, if there is one
  pub none_passed : (most count : ℕ) (settled : Bool) (values : List V) → values ≡ [] → (most ≡ 0 → (count ≡ 0) × (settled ≡ false))
      → (0 < most → (count ≡ 1) × (settled ≡ true)) → HavePassed f s e most values count settled values
  none_passed zero count settled values empty none one =
      let at = none refl in rw (empty, at.0, at.1) (refl, omega arith, refl, (λ _. refl), tt)
  none_passed (suc most) count settled values empty none one =
      let at = one (omega arith) in rw (empty, at.0, at.1) (refl, omega arith, refl, (λ not. absurd (true≢false not)), (tt, refl))

  -- where all values have settled, and those that have didn't change, a pass changes none
  pub fixed_once_settled : (most count : ℕ) (old new : List V) → ((x y : V) → s x y ≡ true → x ≡ y) → HavePassed f s e most old count true new
      → passed f e new e ≡ new
  fixed_once_settled most zero old new same h = absurd (true≢false h.2)
  fixed_once_settled most (suc n) old new same h =
      let last : passed_times f e n old ≡ passed_times f e (suc n) old =
      equal_lists_are_same s same (passed_times f e n old) (passed_times f e (suc n) old) (sym h.2) in
      ap (λ l. passed f e l e) (h.0 ∙ sym last) ∙ sym h.0

module _ {V K : Type 0} (f : K → V → V → V → V) (s : K → V → V → Bool) (kernel : K) (start : List V) (e : V) (n : ℕ) (old new : List (Strip V (Note K)))
    (noted : All (IsNotedBy kernel) old) (items : items_of old ≡ passed_times (f kernel) e n start) (none : NoneSettled (f kernel) (s kernel) e (suc n) start)
    (passes : AllZip (IsPassedOver f s) (told e old e) new) where
  -- a pass after which some values have not settled
  pub goes_on : all_settled new ≡ false → All (IsNotedBy kernel) new × (items_of new ≡ passed_times (f kernel) e (n + 1) start)
      × NoneSettled (f kernel) (s kernel) e (suc (n + 1)) start
  goes_on not = let next = one_pass_more f s kernel start e n old new noted items passes in rw (add-one n) (next.1, next.0, (none, sym next.2 ∙ not))

  -- a pass after which all have
  pub ends_here : (most : ℕ) → n < most → all_settled new ≡ true → HavePassed (f kernel) (s kernel) e most start (n + 1) true (items_of new)
  ends_here most few all =
      let next = one_pass_more f s kernel start e n old new noted items passes in
      rw (add-one n) (ends_settled (f kernel) (s kernel) e most n start (items_of new) (omega arith) next.0 (sym all ∙ next.2) none)
