-- Values up to the first failure, piece after piece.
use Rattle.std.proofs.Common.{◌≡◌, ℕ, ◌+◌, ◌<◌, Option, Some, None, Result, Ok, Err, List, [], ◌∷◌, ◌++◌, length, take, drop, get_or, map, append_assoc, refl, sym, subst, ap, ◌∙◌}
use Rattle.std.specs.Prelude.{All}
use Rattle.std.specs.List.{AllZip}
use Rattle.std.proofs.lemmas.List.{take_more, drop_more, take-append-drop, append-nil}
use Rattle.std.proofs.lemmas.List.Elements.{All-head, All-tail, All-cons, All-nil}
use Rattle.spindle_parts.specs.Pieces.{joined}
use Rattle.spindle_parts.proofs.ListLaws.{map_snoc, joined_snoc}
use Rattle.spindle.specs.Tries.{AreUpTo}

module _ {X V E : Type 0} (R : X → Result V E → Type 0) where
  -- where none fails, each has its value
  pub all_have_values : (xs : List X) (vs : List V) → AreUpTo R xs vs None → AllZip (λ x v. R x (Ok v)) xs vs
  all_have_values [] [] a = tt
  all_have_values [] (v ∷ vs) a = absurd a
  all_have_values (x ∷ xs) [] a = absurd a
  all_have_values (x ∷ xs) (v ∷ vs) a = (a.0, all_have_values xs vs a.1)

  -- behind items that all have values
  pub up_to_append : (xs ys : List X) (vs ws : List V) (f : Option E) → AreUpTo R xs vs None → AreUpTo R ys ws f → AreUpTo R (xs ++ ys) (vs ++ ws) f
  up_to_append [] ys [] ws f a b = b
  up_to_append [] ys (v ∷ vs) ws f a b = absurd a
  up_to_append (x ∷ xs) ys [] ws f a b = absurd a
  up_to_append (x ∷ xs) ys (v ∷ vs) ws f a b = (a.0, up_to_append xs ys vs ws f a.1 b)

  -- behind a failure no item counts
  up_to_failed : (xs ys : List X) (vs : List V) (e : E) → AreUpTo R xs vs (Some e) → AreUpTo R (xs ++ ys) vs (Some e)
  up_to_failed [] ys [] e a = absurd a
  up_to_failed [] ys (v ∷ vs) e a = absurd a
  up_to_failed (x ∷ xs) ys [] e a = a
  up_to_failed (x ∷ xs) ys (v ∷ vs) e a = (a.0, up_to_failed xs ys vs e a.1)

  -- one value more, where the items are walked by an index
  pub up_to_next : (xs : List X) (i : ℕ) (x : X) (v : V) (vs : List V) → i < length xs → x ≡ get_or xs i x → AreUpTo R (take i xs) vs None → R x (Ok v)
      → AreUpTo R (take (i + 1) xs) (vs ++ v ∷ []) None
  up_to_next xs i x v vs h e a r =
      let more : AreUpTo R (take i xs ++ x ∷ []) (vs ++ v ∷ []) None = up_to_append (take i xs) (x ∷ []) vs (v ∷ []) None a (r, tt) in
      rw (take_more xs i x h) (rw (← e) more)

  -- the first failure there
  pub up_to_here : (xs : List X) (i : ℕ) (x : X) (e : E) (vs : List V) → i < length xs → x ≡ get_or xs i x → AreUpTo R (take i xs) vs None → R x (Err e)
      → AreUpTo R xs vs (Some e)
  up_to_here xs i x e vs h is a r =
      let rest : drop i xs ≡ x ∷ drop (i + 1) xs = drop_more xs i x h ∙ ap (λ y. y ∷ drop (i + 1) xs) (sym is) in
      let all : AreUpTo R (take i xs ++ x ∷ drop (i + 1) xs) (vs ++ []) (Some e) = up_to_append (take i xs) (x ∷ drop (i + 1) xs) vs [] (Some e) a r in
      let whole : take i xs ++ x ∷ drop (i + 1) xs ≡ xs = ap (λ l. take i xs ++ l) (sym rest) ∙ take-append-drop i xs in
      subst (λ l. AreUpTo R l vs (Some e)) whole (subst (λ l. AreUpTo R (take i xs ++ x ∷ drop (i + 1) xs) l (Some e)) (append-nil vs) all)

module _ {A X V E : Type 0} (R : X → Result V E → Type 0) (run : A → List X) (values : A → List V) (failure : A → Option E) where
  abbrev IsTrial : A → Type 0
  IsTrial a = AreUpTo R (run a) (values a) (failure a)

  -- what holds of all holds of the next one
  pub next_trial : (before later : List A) (a : A) → All IsTrial (before ++ a ∷ later) → IsTrial a
  next_trial [] later a all = All-head IsTrial a later all
  next_trial (b ∷ before) later a all = next_trial before later a (All-tail IsTrial b (before ++ a ∷ later) all)

  -- one piece more that has no failure
  pub one_trial_more : (before : List A) (a : A) (vs : List V) → AreUpTo R (joined (map run before)) vs None → IsTrial a → failure a ≡ None
      → AreUpTo R (joined (map run (before ++ a ∷ []))) (vs ++ values a) None
  one_trial_more before a vs all one none =
      rw (map_snoc run before a, joined_snoc (map run before) (run a))
      (up_to_append R (joined (map run before)) (run a) vs (values a) None all (subst (AreUpTo R (run a) (values a)) none one))

  -- the pieces behind one
  runs_behind : (before later : List A) (a : A) → joined (map run (before ++ a ∷ later)) ≡ joined (map run before) ++ (run a ++ joined (map run later))
  runs_behind [] later a = refl
  runs_behind (b ∷ before) later a =
      ap (λ l. run b ++ l) (runs_behind before later a) ∙ sym (append_assoc (run b) (joined (map run before)) (run a ++ joined (map run later)))

  -- the first piece that has a failure
  pub first_trial_failed : (before later : List A) (a : A) (e : E) (vs : List V) → AreUpTo R (joined (map run before)) vs None → IsTrial a → failure a ≡ Some e
      → AreUpTo R (joined (map run (before ++ a ∷ later))) (vs ++ values a) (Some e)
  first_trial_failed before later a e vs all one failed =
      let here : AreUpTo R (run a) (values a) (Some e) = subst (AreUpTo R (run a) (values a)) failed one in
      rw (runs_behind before later a)
      (up_to_append R (joined (map run before)) (run a ++ joined (map run later)) vs (values a) (Some e) all
      (up_to_failed R (run a) (joined (map run later)) (values a) e here))

-- what the jobs made of tasks that held this kernel
pub tried_by : {A K X V E : Type 0} (R : K → X → Result V E → Type 0) (kernel : K) (held : A → K) (run : A → List X) (values : A → List V) (failure : A → Option E)
    → (old new : List A) → All (λ a. held a ≡ kernel) old
    → AllZip (λ a b. (run b ≡ run a) × AreUpTo (R (held a)) (run b) (values b) (failure b)) old new
    → All (λ b. AreUpTo (R kernel) (run b) (values b) (failure b)) new × (map run new ≡ map run old)
tried_by R kernel held run values failure [] [] k z = (All-nil (λ b. AreUpTo (R kernel) (run b) (values b) (failure b)), refl)
tried_by R kernel held run values failure [] (b ∷ bs) k z = absurd z
tried_by R kernel held run values failure (a ∷ rest) [] k z = absurd z
tried_by R kernel held run values failure (a ∷ rest) (b ∷ bs) k z =
    let later = tried_by R kernel held run values failure rest bs (All-tail (λ a. held a ≡ kernel) a rest k) z.1 in
    let here = subst (λ k. AreUpTo (R k) (run b) (values b) (failure b)) (All-head (λ a. held a ≡ kernel) a rest k) z.0.1 in (
      All-cons (λ b. AreUpTo (R kernel) (run b) (values b) (failure b)) b bs here later.0,
      λ i. z.0.0 i ∷ later.1 i,
    )

-- parts that are read as they are
pub same_parts : {X : Type 0} (parts : List X) → map (λ part. part) parts ≡ parts
same_parts [] = refl
same_parts (part ∷ parts) = ap (λ l. part ∷ l) (same_parts parts)
