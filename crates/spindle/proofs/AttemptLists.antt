-- Pieces of a round that may stop: what is kept from before their jobs to after them.
use Rattle.std.proofs.Common.{◌≡◌, ◌⊎◌, ℕ, List, [], ◌∷◌, Vec, map, ap, sym, ◌∙◌, refl, inl, inr, None, subst, vec_len}
use Rattle.std.proofs.lemmas.List.Elements.{All-nil, All-cons, All-head, All-tail}
use Rattle.std.specs.List.{All, AllZip, Any}
use Rattle.std.specs.declared.alloc.Global.{Global}
use Rattle.spindle_parts.specs.Pieces.{cut_lengths, joined}
use Rattle.spindle.specs.declared.lock.attempt.Attempt.{Attempt}
use Rattle.spindle.specs.Attempts.{AreAttempts, HasFailed, HasRun, IsAttempted, IsRight, IsSkipped, IsUnstopped}

-- where one list holds P, and what becomes of an element with P holds Q, the other list holds Q
pub carried : {X Y : Type 0} (R : X → Y → Type 0) (P : X → Type 0) (Q : Y → Type 0) → ((x : X) (y : Y) → R x y → P x → Q y)
    → (xs : List X) (ys : List Y) → AllZip R xs ys → All P xs → All Q ys
carried R P Q step [] [] z p = All-nil Q
carried R P Q step [] (y ∷ ys) z p = absurd z
carried R P Q step (x ∷ xs) [] z p = absurd z
carried R P Q step (x ∷ xs) (y ∷ ys) z p =
    All-cons Q y ys (step x y z.0 (All-head P x xs p)) (carried R P Q step xs ys z.1 (All-tail P x xs p))

-- what stays the same of each element stays the same of the list
pub same_of_each : {X Z : Type 0} (R : X → X → Type 0) (f : X → Z) → ((x y : X) → R x y → f y ≡ f x) → (xs ys : List X) → AllZip R xs ys
    → map f ys ≡ map f xs
same_of_each R f step [] [] z = refl
same_of_each R f step [] (y ∷ ys) z = absurd z
same_of_each R f step (x ∷ xs) [] z = absurd z
same_of_each R f step (x ∷ xs) (y ∷ ys) z = ap (λ v. v ∷ map f ys) (step x y z.0) ∙ ap (λ l. f x ∷ l) (same_of_each R f step xs ys z.1)

-- what is right of a piece stays right when its stop is taken from it
pub still_right : {A B : Type 0} (Meets : A → B → Type 0) (old new : Attempt A B) → IsUnstopped old new → IsRight Meets old → IsRight Meets new
still_right Meets old new same (inl ran) = inl (
  same.3 ∙ ran.0,
  subst (λ v. AllZip Meets v.items new.outputs.items) (sym same.1) (subst (λ v. AllZip Meets old.items.items v.items) (sym same.2) ran.1),
)
still_right Meets old new same (inr skipped) = inr (same.3 ∙ skipped.0, ap (λ v. v.items) same.2 ∙ skipped.1)

-- after a round that is over
pub over : {A B : Type 0} (Meets : A → B → Type 0) (Fails : B → Type 0) (items : Vec A Global) (n : ℕ) (old new : List (Attempt A B))
    → joined (map (λ a. a.items.items) old) ≡ items.items → map (λ a. vec_len a.items) old ≡ cut_lengths (vec_len items) n → All IsSkipped old
    → AllZip (IsAttempted Meets) old new → All HasRun new ⊎ Any (HasFailed Fails) new → AreAttempts Meets Fails items n new
over Meets Fails items n old new whole lengths none step stopped = record {
  whole = ap joined (same_of_each (IsAttempted Meets) (λ a. a.items.items) (λ x y r. ap (λ v. v.items) r.0) old new step) ∙ whole;
  lengths = same_of_each (IsAttempted Meets) (λ a. vec_len a.items) (λ x y r. ap (λ v. vec_len v) r.0) old new step ∙ lengths;
  right = carried (IsAttempted Meets) IsSkipped (IsRight Meets) (λ x y r p. r.1 (inr p)) old new step none;
  stopped = stopped;
}

-- after a round that isn't, whose other pieces then run in a second one that nothing stops
pub finished : {A B : Type 0} (Meets : A → B → Type 0) (Fails : B → Type 0) (items : Vec A Global) (n : ℕ) (old mid free new : List (Attempt A B))
    → joined (map (λ a. a.items.items) old) ≡ items.items → map (λ a. vec_len a.items) old ≡ cut_lengths (vec_len items) n → All IsSkipped old
    → AllZip (IsAttempted Meets) old mid → AllZip IsUnstopped mid free → AllZip (IsAttempted Meets) free new
    → AreAttempts Meets Fails items n new
finished {A} {B} Meets Fails items n old mid free new whole lengths none first freed second =
    let R : Attempt A B → Attempt A B → Type 0 = IsAttempted Meets in
    let right : All (IsRight Meets) mid = carried R IsSkipped (IsRight Meets) (λ x y r p. r.1 (inr p)) old mid first none in
    let right_free : All (IsRight Meets) free = carried IsUnstopped (IsRight Meets) (IsRight Meets) (still_right Meets) mid free freed right in
    let unstopped : All (λ a. a.stop ≡ None) free = carried IsUnstopped (IsRight Meets) (λ a. a.stop ≡ None) (λ x y r p. r.0) mid free freed right in
    record {
      whole = ap joined (same_of_each R (λ a. a.items.items) (λ x y r. ap (λ v. v.items) r.0) free new second
          ∙ same_of_each IsUnstopped (λ a. a.items.items) (λ x y r. ap (λ v. v.items) r.1) mid free freed
          ∙ same_of_each R (λ a. a.items.items) (λ x y r. ap (λ v. v.items) r.0) old mid first) ∙ whole;
      lengths = same_of_each R (λ a. vec_len a.items) (λ x y r. ap (λ v. vec_len v) r.0) free new second
          ∙ same_of_each IsUnstopped (λ a. vec_len a.items) (λ x y r. ap (λ v. vec_len v) r.1) mid free freed
          ∙ same_of_each R (λ a. vec_len a.items) (λ x y r. ap (λ v. vec_len v) r.0) old mid first ∙ lengths;
      right = carried R (IsRight Meets) (IsRight Meets) (λ x y r p. r.1 p) free new second right_free;
      stopped = inl (carried R (λ a. a.stop ≡ None) HasRun (λ x y r p. r.2 p) free new second unstopped);
    }
