-- Tallies of pieces, one more at a time, and the report that a whole tally makes.
use Rattle.std.specs.Option.{option_or}
use Rattle.std.proofs.Common.{◌≡◌, ◌⊎◌, ◌↔◌, ℕ, ◌+◌, ◌<◌, ◌≤◌, min, Bool, true, false, not, cond, List, [], ◌∷◌, ◌++◌, Option, None, Some, IfSome, Vec, vec_len}
use Rattle.std.proofs.Common.{IsNone, IsSomeAnd, IsTrue, if◌then◌else◌, slice_get, unwrap_or}
use Rattle.std.proofs.Common.{vec_capacity, Global, length-append, ◌||◌, zero, suc, length, get_or, map, filter, All, Any, Contains, inl, inr, ⊎_elim, refl, ap}
use Rattle.std.proofs.Common.{sym, ◌∙◌, subst, arith, zero-add, add-zero, append-nil, append_assoc, mod-lt, div-add-mod'}
use Rattle.std.specs.List.{AllZip}
use Rattle.std.specs.List.Sorted.{IsStrictlyIncreasing}
use Rattle.std.proofs.lemmas.Bool.{cases_lt, false≢true}
use Rattle.std.proofs.lemmas.Grind.{get_or_default_zero}
use Rattle.std.proofs.lemmas.List.Elements.{All-head, All-tail, All-push, filter-append, filter_passes}
use Rattle.std.proofs.lemmas.List.{get_or-map, get_or_append_left, get_or_at, length-map, take_all}
use Rattle.std.proofs.lemmas.List.Quantifiers.{Any-push}
use Rattle.std.proofs.lemmas.List.Kept.{AllPairs-from_increasing, IsStrictlyIncreasing-filter}
use Rattle.std.proofs.lemmas.List.Sorted.{IsPermutation-filter_both}
use Rattle.spindle_parts.specs.Pieces.{counted, joined}
use Rattle.spindle_parts.proofs.ListLaws.{all_zip_append, counted_snoc, joined_snoc, map_snoc}
use Rattle.spindle_parts.proofs.Deals.{length-counted}
use Rattle.spindle_locks.proofs.Addresses.{get_or-counted}
use Rattle.spindle_locks.specs.Reports.{numbers_of, outputs_of, is_marked, HasFailed, IsAnswered, IsFirstFailed, IsTold, IsNoted, IsReport}
use Rattle.spindle_locks.specs.Reports.{lost_at, less_of, first_astray, least_lost}
use Rattle.spindle_locks.proofs.PieceRuns.{before_first, items_more}
use Rattle.spindle_locks.specs.PieceRuns.{items_before, piece_at, piece_start}
use Rattle.spindle_locks.specs.declared.pieces.report.Report.{Report}
use Rattle.spindle_locks.specs.declared.pieces.tally.Tally.{Tally}

-- as many pieces are noted, however their number is written
pub noted_at : {A B : Type 0} (Meets : A → B → Type 0) (Fails : B → Type 0) (items : List A) (n : ℕ) (left : List Bool) (tally : Tally B) {j k : ℕ} → j ≡ k
    → IsNoted Meets Fails items n left j tally → IsNoted Meets Fails items n left k tally
noted_at Meets Fails items n left tally e noted = subst (λ (m : ℕ). IsNoted Meets Fails items n left m tally) e noted

-- of one number more
filter_next : (p : ℕ → Bool) (k : ℕ) (b : Bool) → p k ≡ b → filter p (counted 0 (k + 1)) ≡ filter p (counted 0 k) ++ cond b (k ∷ []) []
filter_next p k b e = rw (counted_snoc 0 k, zero-add k, filter-append p (counted 0 k) (k ∷ []), e) refl

not_not : (b : Bool) → b ≡ not (not b)
not_not true = refl
not_not false = refl

-- a piece more that ran
pub told_ran : {B : Type 0} (left : List Bool) (k : ℕ) (old new : Tally B) (outputs : Vec B Global) → is_marked left k ≡ false
    → new.ran.items ≡ old.ran.items ++ (k, outputs) ∷ [] → new.skipped.items ≡ old.skipped.items → IsTold left k old → IsTold left (k + 1) new
told_ran left k old new outputs unmarked ran skipped told = record {
  ran = ap numbers_of ran ∙ map_snoc (λ piece. piece.0) old.ran.items (k, outputs) ∙ ap (λ xs. xs ++ k ∷ []) told.ran
      ∙ sym (filter_next (λ j. not (is_marked left j)) k true (ap not unmarked));
  skipped = skipped ∙ told.skipped ∙ sym (filter_next (is_marked left) k false unmarked ∙ append-nil (filter (is_marked left) (counted 0 k)));
}

-- a piece more that was skipped
pub told_skipped : {B : Type 0} (left : List Bool) (k : ℕ) (old new : Tally B) → is_marked left k ≡ true → new.ran.items ≡ old.ran.items
    → new.skipped.items ≡ old.skipped.items ++ k ∷ [] → IsTold left k old → IsTold left (k + 1) new
told_skipped left k old new marked ran skipped told = record {
  ran = ap numbers_of ran ∙ told.ran ∙ sym (filter_next (λ j. not (is_marked left j)) k false (ap not marked)
      ∙ append-nil (filter (λ j. not (is_marked left j)) (counted 0 k)));
  skipped = skipped ∙ ap (λ xs. xs ++ k ∷ []) told.skipped ∙ sym (filter_next (is_marked left) k true marked);
}

increasing : (n : ℕ) → IsStrictlyIncreasing (counted 0 n)
increasing n k within = let long = length-counted 0 n in
    omega (arith, get_or-counted 0 n k (omega arith), get_or-counted 0 n (k + 1) (omega arith))

-- where a test keeps nothing, its opposite keeps all
kept_all : (p : ℕ → Bool) (xs : List ℕ) → filter p xs ≡ [] → filter (λ j. not (p j)) xs ≡ xs
kept_all p [] e = refl
kept_all p (x ∷ xs) e = kept_all_from (p x) x (filter p xs) xs (filter (λ j. not (p j)) xs) (kept_all p xs) e
  where
    kept_all_from : (b : Bool) (x : ℕ) (fs xs ks : List ℕ) → (fs ≡ [] → ks ≡ xs) → cond b (x ∷ fs) fs ≡ [] → cond (not b) (x ∷ ks) ks ≡ x ∷ xs
    kept_all_from true x fs xs ks h e = absurd cc
    kept_all_from false x fs xs ks h e = ap (λ t. x ∷ t) (h e)

-- a whole tally makes a report
pub report_of : {A B : Type 0} (Meets : A → B → Type 0) (Fails : B → Type 0) (items : List A) (n : ℕ) (left : List Bool) (tally : Tally B) (report : Report B)
    → report.ran ≡ tally.ran → report.skipped ≡ tally.skipped → IsTold left n tally → All (IsAnswered Meets items n) tally.ran.items
    → (report.skipped.items ≡ []) ⊎ Any (HasFailed Fails) report.ran.items → IsReport Meets Fails items n report
report_of Meets Fails items n left tally report ran skipped told answers stopped =
    let p : ℕ → Bool = λ j. not (is_marked left j) in let q = is_marked left in
    let r = ap (λ v. numbers_of v.items) ran ∙ told.ran in let s = ap (λ v. v.items) skipped ∙ told.skipped in record {
      ran = subst IsStrictlyIncreasing (sym r) (IsStrictlyIncreasing-filter p (counted 0 n) (increasing n));
      skipped = subst IsStrictlyIncreasing (sym s) (IsStrictlyIncreasing-filter q (counted 0 n) (increasing n));
      each_once = rw (r, s) (IsPermutation-filter_both p q (λ j. not_not (is_marked left j)) (counted 0 n));
      whole = λ none. r ∙ kept_all q (counted 0 n) (sym s ∙ none);
      answers = subst (λ v. All (IsAnswered Meets items n) v.items) (sym ran) answers;
      stopped = stopped;
    }

behind_first : (b : Bool) (x y : ℕ) (xs : List ℕ) → Contains xs x → Contains (cond b (y ∷ xs) xs) x
behind_first true x y xs h = let lt = h.1 in (suc h.0, omega arith, h.2)
behind_first false x y xs h = h

at_first : (b : Bool) (x y : ℕ) (xs : List ℕ) → b ≡ true → y ≡ x → Contains (cond b (y ∷ xs) xs) x
at_first true x y xs e h = (0, omega arith, h)
at_first false x y xs e h = absurd cc

kept : (p : ℕ → Bool) (xs : List ℕ) (k x : ℕ) → k < length xs → get_or xs k x ≡ x → p x ≡ true → Contains (filter p xs) x
kept p [] k x lt e t = absurd (omega (arith, lt))
kept p (y ∷ xs) zero x lt e t = at_first (p y) x y (filter p xs) (ap p e ∙ t) e
kept p (y ∷ xs) (suc k) x lt e t = behind_first (p y) x y (filter p xs) (kept p xs k x (omega (arith, lt)) e t)

unmarked_past : (left : List Bool) (k : ℕ) → length left ≤ k → is_marked left k ≡ false
unmarked_past [] zero h = refl
unmarked_past [] (suc k) h = refl
unmarked_past (x ∷ left) zero h = absurd (omega (arith, h))
unmarked_past (x ∷ left) (suc k) h = unmarked_past left k (omega (arith, h))

counted_at : (n k : ℕ) → k < n → get_or (counted 0 n) k k ≡ k
counted_at n k below = let c = length-counted 0 n in get_or_default_zero (counted 0 n) k k (omega arith) ∙ get_or-counted 0 n k below ∙ zero-add k

-- of a whole tally, those that were skipped are the marked ones
pub skipped_marked : {B : Type 0} (n : ℕ) (left : List Bool) (tally : Tally B) (xs : List ℕ) → length left ≡ n → xs ≡ tally.skipped.items
    → IsTold left n tally → (k : ℕ) → Contains xs k ↔ (is_marked left k ≡ true)
skipped_marked n left tally xs long same told k = let q = is_marked left in let e = same ∙ told.skipped in (
  (λ h. let g = subst (λ ys. Contains ys k) e h in
      subst (λ x. q x ≡ true) g.2 (filter_passes q (counted 0 n) g.0 k g.1)),
  (λ t. subst (λ ys. Contains ys k) (sym e) (⊎_elim
      (λ (below : k < n). kept q (counted 0 n) k k (let c = length-counted 0 n in omega (arith, c, below)) (counted_at n k below) t)
      (λ (past : n ≤ k). absurd (let f = unmarked_past left k (omega (arith, long, past)) in false≢true (sym f ∙ t)))
      (cases_lt k n))),
)

-- where a piece of these has failed, one of more has
any_more : {X : Type 0} (P : X → Type 0) (xs : List X) (y : X) → Any P xs → Any P (xs ++ y ∷ [])
any_more P xs y h = let long = length-append xs (y ∷ []) in let lt = h.2 in (h.0, h.1, omega arith, get_or_append_left xs (y ∷ []) h.1 h.0 lt ∙ h.3, h.4)

below_more : (k : ℕ) (o : Option ℕ) → IfSome o (λ j. j < k) → IfSome o (λ j. j < k + 1)
below_more k None h = h
below_more k (Some j) h = omega (arith, h)

marked_more : (k : ℕ) (left : List Bool) (xs : List ℕ) → All (λ j. (j < k) × (is_marked left j ≡ true)) xs
    → All (λ j. (j < k + 1) × (is_marked left j ≡ true)) xs
marked_more k left xs h i d lt = let e = h i d lt in let b = e.0 in (omega arith, e.1)

pub either : (a b : Bool) → (a || b) ≡ true → (a ≡ true) ⊎ (b ≡ true)
either true b e = inl refl
either false b e = inr e

pub or_true : (b : Bool) → (b || true) ≡ true
or_true true = refl
or_true false = refl

no_number : (k : ℕ) → Some k ≡ None → ⊥
no_number k e = absurd cc

same_number : (i k : ℕ) → Some i ≡ Some k → i ≡ k
same_number i k e = cc

-- The least number that is lost or was skipped.

-- it is at most k
abbrev IsAtMost : ℕ → Option ℕ → Type 0
IsAtMost k o = IsSomeAnd o (λ i. i ≤ k)

-- a number more that was skipped
skipped_more : (o : Option ℕ) (xs : List ℕ) (k j : ℕ) → IsAtMost j (less_of o (slice_get xs 0)) → IsAtMost j (less_of o (slice_get (xs ++ k ∷ []) 0))
skipped_more None [] k j h = absurd h
skipped_more (Some i) [] k j h = omega (arith, h)
skipped_more o (x ∷ xs) k j h = h

skipped_here : (o : Option ℕ) (xs : List ℕ) (k : ℕ) → All (λ j. j ≤ k) xs → IsAtMost k (less_of o (slice_get (xs ++ k ∷ []) 0))
skipped_here None [] k all = omega arith
skipped_here (Some i) [] k all = omega arith
skipped_here None (x ∷ xs) k all = All-head (λ j. j ≤ k) x xs all
skipped_here (Some i) (x ∷ xs) k all = let h = All-head (λ j. j ≤ k) x xs all in omega (arith, h)

-- a number more that is lost
lost_more : (o f : Option ℕ) (k j : ℕ) → IsAtMost j (less_of o f) → IsAtMost j (less_of (option_or o (Some k)) f)
lost_more None None k j h = absurd h
lost_more None (Some x) k j h = omega (arith, h)
lost_more (Some i) f k j h = h

lost_here : (o f : Option ℕ) (k : ℕ) → IfSome o (λ i. i < k) → IsAtMost k (less_of (option_or o (Some k)) f)
lost_here None None k h = omega arith
lost_here None (Some x) k h = omega arith
lost_here (Some i) None k h = omega (arith, h)
lost_here (Some i) (Some x) k h = omega (arith, h)

lost_below : (o : Option ℕ) (k : ℕ) → IfSome o (λ i. i < k) → IfSome (option_or o (Some k)) (λ i. i < k + 1)
lost_below None k h = omega arith
lost_below (Some i) k h = omega (arith, h)

lost_some : (o : Option ℕ) (k : ℕ) → option_or o (Some k) ≡ None → ⊥
lost_some None k e = no_number k e
lost_some (Some i) k e = no_number i e

-- the one that was noted first is kept
pub first_kept : (o : Option ℕ) (k : ℕ) → Some (unwrap_or o k) ≡ option_or o (Some k)
first_kept None k = refl
first_kept (Some i) k = refl

-- of k + 1 numbers the first k, and then k
or_last : (P : ℕ → Type 0) (k : ℕ) → ((j : ℕ) → j < k → P j) → P k → (j : ℕ) → j < k + 1 → P j
or_last P k before here j lt = ⊎_elim (λ (less : j < k). before j less)
    (λ (same : k ≤ j). let e : k ≡ j = omega (arith, lt, same) in subst P e here) (cases_lt j k)

module _ {A B : Type 0} (Meets : A → B → Type 0) (Fails : B → Type 0) (items : List A) (n : ℕ) (left : List Bool) (k : ℕ) where
  -- a tally that goes on with a piece that ran
  pub noted_ran : (old new : Tally B) (outputs : Vec B Global) (has : Bool) → is_marked left k ≡ false → AllZip Meets (piece_at items n k) outputs.items
      → (has ≡ true → Any Fails outputs.items) → vec_len new.ran ≡ vec_len old.ran + 1 → vec_capacity new.ran ≡ vec_capacity old.ran
      → new.ran.items ≡ old.ran.items ++ (k, outputs) ∷ [] → new.skipped ≡ old.skipped → new.failed ≡ (old.failed || has) → new.lost ≡ old.lost
      → IsNoted Meets Fails items n left k old → IsNoted Meets Fails items n left (k + 1) new
  noted_ran old new outputs has unmarked answered fails len room ran skipped failed lost noted =
      let a = noted.ran_room in let b = noted.skipped_room in let c = ap vec_len skipped in let d = ap vec_capacity skipped in let e = noted.ran_most in
      let f = noted.skipped_most in record {
        ran_room = omega arith;
        skipped_room = omega arith;
        ran_most = omega arith;
        skipped_most = omega arith;
        told = λ none. told_ran left k old new outputs unmarked ran (ap (λ v. v.items) skipped) (noted.told (sym lost ∙ none));
        answers = subst (All (IsAnswered Meets items n)) (sym ran) (All-push (IsAnswered Meets items n) old.ran.items (k, outputs) noted.answers answered);
        failed = λ t. subst (Any (HasFailed Fails)) (sym ran) (⊎_elim (λ before. any_more (HasFailed Fails) old.ran.items (k, outputs) (noted.failed before))
            (λ now. Any-push (HasFailed Fails) old.ran.items (k, outputs) (fails now)) (either old.failed has (sym failed ∙ t)));
        marked = subst (λ v. All (λ j. (j < k + 1) × (is_marked left j ≡ true)) v.items) (sym skipped) (marked_more k left old.skipped.items noted.marked);
        lost = subst (λ o. IfSome o (λ j. j < k + 1)) (sym lost) (below_more k old.lost noted.lost);
        least = subst (λ (t : Option ℕ × Vec ℕ Global). (j : ℕ) → j < k + 1 → is_marked left j ≡ true → IsAtMost j (less_of t.0 (slice_get t.1.items 0)))
            (λ i. (sym lost i, sym skipped i)) (or_last (λ j. is_marked left j ≡ true → IsAtMost j (first_astray old)) k noted.least
            (λ marked. absurd (false≢true (sym unmarked ∙ marked))));
      }

  -- with one that was skipped
  pub noted_skipped : (old new : Tally B) → is_marked left k ≡ true → new.ran ≡ old.ran → vec_len new.skipped ≡ vec_len old.skipped + 1
      → vec_capacity new.skipped ≡ vec_capacity old.skipped → new.skipped.items ≡ old.skipped.items ++ k ∷ [] → new.failed ≡ old.failed → new.lost ≡ old.lost
      → IsNoted Meets Fails items n left k old → IsNoted Meets Fails items n left (k + 1) new
  noted_skipped old new marked ran len room skipped failed lost noted =
      let a = noted.ran_room in let b = noted.skipped_room in let c = ap vec_len ran in let d = ap vec_capacity ran in let e = noted.ran_most in
      let f = noted.skipped_most in record {
        ran_room = omega arith;
        skipped_room = omega arith;
        ran_most = omega arith;
        skipped_most = omega arith;
        told = λ none. told_skipped left k old new marked (ap (λ v. v.items) ran) skipped (noted.told (sym lost ∙ none));
        answers = subst (λ v. All (IsAnswered Meets items n) v.items) (sym ran) noted.answers;
        failed = λ t. subst (λ v. Any (HasFailed Fails) v.items) (sym ran) (noted.failed (sym failed ∙ t));
        marked = subst (All (λ j. (j < k + 1) × (is_marked left j ≡ true))) (sym skipped)
            (All-push (λ j. (j < k + 1) × (is_marked left j ≡ true)) old.skipped.items k
            (marked_more k left old.skipped.items noted.marked) (omega arith, marked));
        lost = subst (λ o. IfSome o (λ j. j < k + 1)) (sym lost) (below_more k old.lost noted.lost);
        least = subst (λ (t : Option ℕ × List ℕ). (j : ℕ) → j < k + 1 → is_marked left j ≡ true → IsAtMost j (less_of t.0 (slice_get t.1 0)))
            (λ i. (sym lost i, sym skipped i))
            (or_last (λ j. is_marked left j ≡ true → IsAtMost j (less_of old.lost (slice_get (old.skipped.items ++ k ∷ []) 0))) k
            (λ j lt m. skipped_more old.lost old.skipped.items k j (noted.least j lt m))
            (λ m. skipped_here old.lost old.skipped.items k (λ i d lt. let e = (noted.marked i d lt).0 in omega (arith, e))));
      }

  -- and with one that is lost
  pub noted_lost : (old new : Tally B) → new.ran ≡ old.ran → new.skipped ≡ old.skipped → new.failed ≡ old.failed → new.lost ≡ option_or old.lost (Some k)
      → IsNoted Meets Fails items n left k old → IsNoted Meets Fails items n left (k + 1) new
  noted_lost old new ran skipped failed lost noted =
      let a = noted.ran_room in let b = noted.skipped_room in let c = ap vec_len ran in let d = ap vec_capacity ran in let e = noted.ran_most in
      let f = noted.skipped_most in let h = ap vec_len skipped in let i = ap vec_capacity skipped in record {
        ran_room = omega arith;
        skipped_room = omega arith;
        ran_most = omega arith;
        skipped_most = omega arith;
        told = λ none. absurd (lost_some old.lost k (sym lost ∙ none));
        answers = subst (λ v. All (IsAnswered Meets items n) v.items) (sym ran) noted.answers;
        failed = λ t. subst (λ v. Any (HasFailed Fails) v.items) (sym ran) (noted.failed (sym failed ∙ t));
        marked = subst (λ v. All (λ j. (j < k + 1) × (is_marked left j ≡ true)) v.items) (sym skipped) (marked_more k left old.skipped.items noted.marked);
        lost = subst (λ o. IfSome o (λ j. j < k + 1)) (sym lost) (lost_below old.lost k noted.lost);
        least = subst (λ (t : Option ℕ × Vec ℕ Global). (j : ℕ) → j < k + 1 → is_marked left j ≡ true → IsAtMost j (less_of t.0 (slice_get t.1.items 0)))
            (λ i. (sym lost i, sym skipped i))
            (or_last (λ j. is_marked left j ≡ true → IsAtMost j (less_of (option_or old.lost (Some k)) (slice_get old.skipped.items 0))) k
            (λ j lt m. lost_more old.lost (slice_get old.skipped.items 0) k j (noted.least j lt m))
            (λ m. lost_here old.lost (slice_get old.skipped.items 0) k noted.lost));
      }

-- What the least lost number is.

-- where a piece failed or none was skipped, it is the one noted so
pub least_early : (failed : Bool) (lost : Option ℕ) (skipped : List ℕ) → (skipped ≡ []) ⊎ (failed ≡ true)
    → lost ≡ (if failed then lost else less_of lost (slice_get skipped 0))
least_early true lost skipped h = refl
least_early false None [] h = refl
least_early false (Some i) [] h = refl
least_early false lost (x ∷ skipped) h = ⊎_elim (λ e. absurd cc) (λ e. absurd (false≢true e)) h

-- where there is none nothing was noted so, and nothing skipped unless a piece failed
pub least_none : (failed : Bool) (lost : Option ℕ) (skipped : List ℕ) → (if failed then lost else less_of lost (slice_get skipped 0)) ≡ None
    → (lost ≡ None) × ((skipped ≡ []) ⊎ (failed ≡ true))
least_none true lost skipped e = (e, inr refl)
least_none false None [] e = (refl, inl refl)
least_none false None (x ∷ skipped) e = absurd (no_number x e)
least_none false (Some i) [] e = absurd (no_number i e)
least_none false (Some i) (x ∷ skipped) e = absurd (no_number (min i x) e)

-- where both the mark and the outputs are there, or neither, nothing is lost
pub none_lost : {X : Type 0} (marked : Bool) (outputs : Option X) (k : ℕ) → IsNone outputs ↔ IsTrue marked → lost_at marked outputs k ≡ None
none_lost true None k h = refl
none_lost true (Some x) k h = absurd (false≢true (sym (h.1 refl)))
none_lost false None k h = absurd (false≢true (h.0 refl))
none_lost false (Some x) k h = refl

-- what is told of outputs where no mark is set is so, where there are outputs without a mark
pub told_here : {X : Type 0} (outputs : Option X) (marked b : Bool) → IsNone outputs ↔ IsTrue marked → (marked ≡ true → ⊥)
    → IfSome outputs (λ _. marked ≡ false → b ≡ true) → b ≡ true
told_here outputs true b h bare t = absurd (bare refl)
told_here None false b h bare t = absurd (false≢true (h.0 refl))
told_here (Some x) false b h bare t = t refl

-- a first number that was skipped is one of those
first_among : (xs : List ℕ) (P : ℕ → Type 0) (k : ℕ) → All P xs → slice_get xs 0 ≡ Some k → P k
first_among [] P k all e = absurd (no_number k (sym e))
first_among (x ∷ xs) P k all e = subst P (same_number x k e) (All-head P x xs all)

-- it is noted so, or it is the first that was skipped and nothing failed
from_least : (failed : Bool) (lost first : Option ℕ) (k : ℕ) → (if failed then lost else less_of lost first) ≡ Some k
    → (lost ≡ Some k) ⊎ (first ≡ Some k)
from_least true lost first k e = inl e
from_least false None first k e = inr e
from_least false (Some i) None k e = inl e
from_least false (Some i) (Some x) k e = ⊎_elim (λ (less : i < x). inl (let m : min i x ≡ i = omega (arith, less) in ap (λ (j : ℕ). Some j) (sym m) ∙ e))
    (λ (le : x ≤ i). inr (let m : min i x ≡ x = omega (arith, le) in ap (λ (j : ℕ). Some j) (sym m) ∙ e)) (cases_lt i x)

module _ {A B : Type 0} (Meets : A → B → Type 0) (Fails : B → Type 0) (items : List A) (n : ℕ) (left : List Bool) (tally : Tally B) (k : ℕ)
    (noted : IsNoted Meets Fails items n left n tally) (is : least_lost tally ≡ Some k) where
  -- it is the number of a piece, and marked, where none was noted as lost
  pub least_within : (k < n) × (tally.lost ≡ None → is_marked left k ≡ true)
  least_within = ⊎_elim
      (λ (mine : tally.lost ≡ Some k). (subst (λ o. IfSome o (λ j. j < n)) mine noted.lost, λ none. absurd (no_number k (sym mine ∙ none))))
      (λ (skipped : slice_get tally.skipped.items 0 ≡ Some k).
      let m = first_among tally.skipped.items (λ j. (j < n) × (is_marked left j ≡ true)) k noted.marked skipped in (m.0, λ none. m.1))
      (from_least tally.failed tally.lost (slice_get tally.skipped.items 0) k is)

  -- no marked number is less, unless one was noted as lost and a piece failed
  pub least_first : ((j : ℕ) → j < k → is_marked left j ≡ true → ⊥) ⊎ ((tally.lost ≡ Some k) × Any (HasFailed Fails) tally.ran.items)
  least_first = by_failure tally.failed refl
    where
      by_failure : (b : Bool) → tally.failed ≡ b
          → ((j : ℕ) → j < k → is_marked left j ≡ true → ⊥) ⊎ ((tally.lost ≡ Some k) × Any (HasFailed Fails) tally.ran.items)
      by_failure true e = inr (subst (λ (b : Bool). (if b then tally.lost else first_astray tally) ≡ Some k) e is, noted.failed e)
      by_failure false e = let first = subst (λ (b : Bool). (if b then tally.lost else first_astray tally) ≡ Some k) e is in
          inl (λ j lt marked. let within = least_within.0 in
          let h = subst (IsAtMost j) first (noted.least j (omega (arith, lt, within)) marked) in omega (arith, lt, h))

-- the items before the last piece's end are all items
before_last : {A : Type 0} (items : List A) (n : ℕ) → (0 < length items → 0 < n) → items_before items n n ≡ items
before_last items n some = let len = length items in ⊎_elim
    (λ full. let d = div-add-mod' len n in let m = mod-lt len (some full) in take_all (piece_start len n n) items (omega arith))
    (λ none. take_all (piece_start len n n) items (omega (arith, none)))
    (cases_lt 0 len)

heads_same : {x y : ℕ} {xs ys : List ℕ} → x ∷ xs ≡ y ∷ ys → (x ≡ y) × (xs ≡ ys)
heads_same e = (cc, cc)

answered_from : {A B : Type 0} (Meets : A → B → Type 0) (items : List A) (n from count : ℕ) (ran : List (ℕ × Vec B Global)) (before : List B)
    → numbers_of ran ≡ counted from count → All (IsAnswered Meets items n) ran → AllZip Meets (items_before items n from) before
    → AllZip Meets (items_before items n (from + count)) (before ++ outputs_of ran)
answered_from Meets items n from zero [] before e answers z = rw (add-zero from, append-nil before) z
answered_from Meets items n from (suc count) [] before e answers z = absurd cc
answered_from Meets items n from zero (p ∷ ran) before e answers z = absurd cc
answered_from Meets items n from (suc count) (p ∷ ran) before e answers z =
    let same = heads_same e in let here = subst (λ k. AllZip Meets (piece_at items n k) p.1.items) same.0 (All-head (IsAnswered Meets items n) p ran answers) in
    let more = subst (λ xs. AllZip Meets xs (before ++ p.1.items)) (sym (items_more items n from))
    (all_zip_append Meets (items_before items n from) before (piece_at items n from) p.1.items z here) in
    let rest = answered_from Meets items n (from + 1) count ran (before ++ p.1.items) same.1 (All-tail (IsAnswered Meets items n) p ran answers) more in
    let next : from + 1 + count ≡ from + suc count = omega arith in
    subst (λ (k : ℕ). AllZip Meets (items_before items n k) (before ++ (p.1.items ++ outputs_of ran))) next
    (subst (AllZip Meets (items_before items n (from + 1 + count))) (append_assoc before p.1.items (outputs_of ran)) rest)

-- where no piece was skipped, the outputs of those that ran answer all items
pub all_answered : {A B : Type 0} (Meets : A → B → Type 0) (Fails : B → Type 0) (items : List A) (n : ℕ) (report : Report B) → (0 < length items → 0 < n)
    → report.skipped.items ≡ [] → IsReport Meets Fails items n report → AllZip Meets items (outputs_of report.ran.items)
all_answered Meets Fails items n report some none r =
    let all = answered_from Meets items n 0 n report.ran.items [] (r.whole none) r.answers
    (subst (λ xs. AllZip Meets xs []) (sym (before_first items n)) (tt {0})) in
    subst (λ xs. AllZip Meets xs (outputs_of report.ran.items)) (before_last items n some)
    (subst (λ (k : ℕ). AllZip Meets (items_before items n k) (outputs_of report.ran.items)) (zero-add n) all)

-- the outputs of one piece more
pub outputs_snoc : {B : Type 0} (ran : List (ℕ × Vec B Global)) (p : ℕ × Vec B Global) → outputs_of (ran ++ p ∷ []) ≡ outputs_of ran ++ p.1.items
outputs_snoc {B} ran p = let f : ℕ × Vec B Global → List B = λ piece. piece.1.items in ap joined (map_snoc f ran p) ∙ joined_snoc (map f ran) (f p)

later_above : (xs : List ℕ) (i k : ℕ) → IsStrictlyIncreasing xs → i ≤ k → k < length xs → get_or xs i 0 ≤ get_or xs k 0
later_above xs i k up le lt = ⊎_elim
    (λ (below : i < k). let above = AllPairs-from_increasing xs up i k 0 below lt in omega (arith, above))
    (λ (same : k ≤ i). let e : i ≡ k = omega (arith, le, same) in subst (λ (j : ℕ). get_or xs j 0 ≤ get_or xs k 0) (sym e) (omega arith))
    (cases_lt i k)

-- where numbers ascend, the first piece that has failed has the least number of those that have
pub first_is_least : {B : Type 0} (Fails : B → Type 0) (ran : List (ℕ × Vec B Global)) (number : ℕ) → IsStrictlyIncreasing (numbers_of ran)
    → IsFirstFailed Fails ran number → All (λ piece. HasFailed Fails piece → number ≤ piece.0) ran
first_is_least {B} Fails ran number up first k d lt failed =
    let before = first.0 in let after = first.1 in let piece = first.2 in let split = first.3 in let i = length before in
    let f : ℕ × Vec B Global → ℕ = λ p. p.0 in let long = length-append before (piece ∷ after) in let all = ap length split in
    let inside : i < length ran = omega arith in
    let there : get_or ran i d ≡ piece = ap (λ ps. get_or ps i d) split ∙ get_or_at before piece after d i refl in
    let mine : get_or (numbers_of ran) i 0 ≡ number = get_or-map f ran i d 0 inside ∙ ap f there ∙ first.4 in
    let its : get_or (numbers_of ran) k 0 ≡ (get_or ran k d).0 = get_or-map f ran k d 0 lt in ⊎_elim
    (λ (early : k < i). absurd (first.6 k d early
    (subst (HasFailed Fails) (ap (λ ps. get_or ps k d) split ∙ get_or_append_left before (piece ∷ after) d k early) failed)))
    (λ (late : i ≤ k). let many = length-map ran f in let above = later_above (numbers_of ran) i k up late (omega arith) in omega (arith, mine, its, above))
    (cases_lt k i)
