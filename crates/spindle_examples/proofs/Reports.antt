-- What the report of a batch of orders tells of what they come to.
use Rattle.std.proofs.Common.{◌≡◌, ◌∙◌, ◌^◌, ◌<◌, ◌≤◌, ℕ, zero, suc, List, [], ◌∷◌, Option, None, Some, unwrap_or, Vec, Global, map, length, length-append}
use Rattle.std.proofs.Common.{slice_index_or, All, Any, ⊎_elim, refl, sym, ap, subst, arith}
use Rattle.std.specs.Option.{SomeIff}
use Rattle.std.specs.List.{AllZip}
use Rattle.std.proofs.lemmas.Bool.{cases_lt}
use Rattle.std.proofs.lemmas.List.{get_or_at, get_or_default}
use Rattle.std.proofs.lemmas.List.Elements.{All-append, All-head, All-nil, All-tail}
use Rattle.spindle.specs.PieceRuns.{piece_at}
use Rattle.spindle.specs.Reports.{HasFailed, IsAnswered, IsFirstFailed, IsReport, NoneFailed, outputs_of}
use Rattle.spindle.specs.Report.{Report}
use Rattle.spindle.proofs.Reports.{all_answered, first_is_least}
use Rattle.spindle_examples.specs.declared.batch.Order.{Order}
use Rattle.spindle_examples.specs.Batch.{due, IsBillOf}
use Rattle.spindle_examples.specs.Checked.{HasTooLarge}

-- of lists that belong together place by place: where one has an element, so has the other
zip_any : {A B : Type 0} (R : A → B → Type 0) (P : A → Type 0) (Q : B → Type 0) → ((a : A) (b : B) → R a b → P a → Q b) → (xs : List A) (ys : List B)
    → AllZip R xs ys → Any P xs → Any Q ys
zip_any R P Q f [] ys z h = let lt = h.2 in absurd (omega arith)
zip_any R P Q f (a ∷ xs) [] z h = absurd z
zip_any R P Q f (a ∷ xs) (b ∷ ys) z (zero, x, lt, e, p) = (0, b, omega arith, refl, f a b z.0 (subst P (sym e) p))
zip_any R P Q f (a ∷ xs) (b ∷ ys) z (suc k, x, lt, e, p) =
    let h = zip_any R P Q f xs ys z.1 (k, x, omega arith, e, p) in let below = h.2 in (suc h.0, h.1, omega arith, h.3, h.4)

flipped : {A B : Type 0} (R : A → B → Type 0) (xs : List A) (ys : List B) → AllZip R xs ys → AllZip (λ b a. R a b) ys xs
flipped R [] [] z = z
flipped R [] (b ∷ ys) z = absurd z
flipped R (a ∷ xs) [] z = absurd z
flipped R (a ∷ xs) (b ∷ ys) z = (z.0, flipped R xs ys z.1)

-- where no piece has failed, none of their outputs is a failure
pub none_fails : {B : Type 0} (Fails : B → Type 0) (ran : List (ℕ × Vec B Global)) → NoneFailed Fails ran → All (λ output. Fails output → ⊥) (outputs_of ran)
none_fails Fails [] none = All-nil (λ output. Fails output → ⊥)
none_fails {B} Fails (p ∷ ran) none =
    let Good : B → Type 0 = λ output. Fails output → ⊥ in
    let whole : (ℕ × Vec B Global) → Type 0 = λ piece. HasFailed Fails piece → ⊥ in
    let here = All-head whole p ran none in let outputs = p.1.items in
    All-append Good outputs (outputs_of ran)
    (λ k d lt failed. here (k, slice_index_or outputs k d, lt, get_or_default outputs k (slice_index_or outputs k d) d lt, failed))
    (none_fails Fails ran (All-tail whole p ran none))

module _ {A : Type 0} (amount : A → ℕ) (limit : ℕ) where
  abbrev Says : A → Option ℕ → Type 0
  Says a o = SomeIff o (amount a < limit) (amount a)

  -- where none is missing, the answers are the amounts
  pub whole : (xs : List A) (ys : List (Option ℕ)) → AllZip Says xs ys → All (λ o. o ≡ None → ⊥) ys → map (λ o. unwrap_or o 0) ys ≡ map amount xs
  whole [] [] z all = refl
  whole [] (o ∷ ys) z all = absurd z
  whole (a ∷ xs) [] z all = absurd z
  whole (a ∷ xs) (None ∷ ys) z all = absurd (All-head (λ (o : Option ℕ). o ≡ None → ⊥) None ys all refl)
  whole (a ∷ xs) (Some x ∷ ys) z all =
      let same = z.0.1 in let rest = whole xs ys z.1 (All-tail (λ (o : Option ℕ). o ≡ None → ⊥) (Some x) ys all) in λ i. same i ∷ rest i

  none_if : (a : A) (o : Option ℕ) → Says a o → limit ≤ amount a → o ≡ None
  none_if a None says large = refl
  none_if a (Some x) says large = let small = says.0 in absurd (omega arith)

  large_if : (o : Option ℕ) (a : A) → Says a o → o ≡ None → limit ≤ amount a
  large_if None a says e = ⊎_elim (λ (small : amount a < limit). absurd (says small)) (λ (large : limit ≤ amount a). large) (cases_lt (amount a) limit)
  large_if (Some x) a says e = absurd cc

  -- where one is missing, an amount is too large, and the converse
  pub one_too_large : (xs : List A) (ys : List (Option ℕ)) → AllZip Says xs ys → Any (λ o. o ≡ None) ys → Any (λ a. limit ≤ amount a) xs
  one_too_large xs ys z h = zip_any (λ o a. Says a o) (λ o. o ≡ None) (λ a. limit ≤ amount a) large_if ys xs (flipped Says xs ys z) h

  pub one_missing : (xs : List A) (ys : List (Option ℕ)) → AllZip Says xs ys → Any (λ a. limit ≤ amount a) xs → Any (λ o. o ≡ None) ys
  one_missing xs ys z h = zip_any Says (λ a. limit ≤ amount a) (λ o. o ≡ None) none_if xs ys z h

-- an order has no bill
abbrev Missing : Option ℕ → Type 0
Missing bill = bill ≡ None

module _ (orders : List Order) (n : ℕ) (report : Report (Option ℕ)) (told : IsReport IsBillOf Missing orders n report) where
  abbrev ran : List (ℕ × Vec (Option ℕ) Global)
  ran = report.ran.items

  -- where no piece has failed, the outputs are the amounts
  pub all_amounts : (0 < length orders → 0 < n) → NoneFailed Missing ran → map (λ bill. unwrap_or bill 0) (outputs_of ran) ≡ map due orders
  all_amounts some none =
      let skipped = ⊎_elim (λ e. e) (λ (h : Any (HasFailed Missing) ran). absurd (none h.0 h.1 h.2 (subst (HasFailed Missing) (sym h.3) h.4))) told.stopped in
      whole due (2 ^ 32) orders (outputs_of ran) (all_answered IsBillOf Missing orders n report some skipped told) (none_fails Missing ran none)

  -- the first piece that has failed is the first with an order that comes to too much
  pub first_too_large : (number : ℕ) → IsFirstFailed Missing ran number
      → HasTooLarge (piece_at orders n number) × All (λ piece. HasTooLarge (piece_at orders n piece.0) → number ≤ piece.0) ran
  first_too_large number first =
      let before = first.0 in let after = first.1 in let piece = first.2 in let split = first.3 in let i = length before in
      let long = length-append before (piece ∷ after) in let all = ap length split in let inside : i < length ran = omega arith in
      let there : slice_index_or ran i piece ≡ piece = ap (λ ps. slice_index_or ps i piece) split ∙ get_or_at before piece after piece i refl in
      let answered = subst (IsAnswered IsBillOf orders n) there (told.answers i piece inside) in
      let least = first_is_least Missing ran number told.ran first in (
        subst (λ (j : ℕ). HasTooLarge (piece_at orders n j)) first.4 (one_too_large due (2 ^ 32) (piece_at orders n piece.0) piece.1.items answered first.5),
        (λ k d lt large. let its = slice_index_or ran k d in
            least k d lt (one_missing due (2 ^ 32) (piece_at orders n its.0) its.1.items (told.answers k d lt) large)),
      )
