-- Divide and conquer: what answers parts answers their problem.
use Rattle.std.proofs.Common.{◌≡◌, ◌∙◌, ◌+◌, ◌/◌, Option, Some, None, List, [], ◌∷◌, ◌++◌, length, take, drop, map, refl, sym, subst, arith}
use Rattle.std.proofs.lemmas.List.{length-map}
use Rattle.std.specs.Prelude.{All}
use Rattle.std.specs.List.{AllZip, zip}
use Rattle.std.proofs.lemmas.List.Elements.{All-head, All-tail}
use Rattle.spindle.specs.Kernels.{IsOfKernel}
use Rattle.spindle.specs.declared.kernels.tasks.Task.{Task}
use Rattle.spindle.specs.declared.kernels.dividing.Branch.{Branch}
use Rattle.spindle.specs.declared.kernels.dividing.Branch.TheVariants.{Whole, Parts, Answers, Answered, Nothing}
use Rattle.spindle.specs.Divisions.{Allows, LeadsTo, first_of, second_of, joined_at}

-- what became of parts that stand beside this kernel
pub parts_changed : {K X Y : Type 0} (R : K → X → Y → Type 0) (kernel : K) (old : List (Task K X)) (new : List (Task K Y)) → All (IsOfKernel kernel) old
    → AllZip (λ a b. R a.kernel a.part b.part) old new → AllZip (R kernel) (map (λ task. task.part) old) (map (λ task. task.part) new)
parts_changed R kernel [] [] k z = tt
parts_changed R kernel [] (b ∷ bs) k z = absurd z
parts_changed R kernel (a ∷ rest) [] k z = absurd z
parts_changed R kernel (a ∷ rest) (b ∷ bs) k z = (
  subst (λ k. R k a.part b.part) (All-head (IsOfKernel kernel) a rest k) z.0,
  parts_changed R kernel rest bs (All-tail (IsOfKernel kernel) a rest k) z.1,
)

-- one list behind another, answered
all_zip_split : {A B : Type 0} (R : A → B → Type 0) (xs ys : List A) (zs : List B) → AllZip R (xs ++ ys) zs
    → AllZip R xs (take (length xs) zs) × AllZip R ys (drop (length xs) zs) × (length zs ≡ length xs + length ys)
all_zip_split R [] [] [] z = (tt, tt, refl)
all_zip_split R [] [] (v ∷ vs) z = absurd z
all_zip_split R [] (y ∷ ys) [] z = absurd z
all_zip_split R [] (y ∷ ys) (v ∷ vs) z =
    let rest = all_zip_split R [] ys vs z.1 in
    (tt, z, omega (arith, rest.2))
all_zip_split R (x ∷ xs) ys [] z = absurd z
all_zip_split R (x ∷ xs) ys (v ∷ vs) z =
    let rest = all_zip_split R xs ys vs z.1 in
    ((z.0, rest.0), rest.1, omega (arith, rest.2))

module _ {P A : Type 0} (solves : P → A → Type 0) (splits : P → P → P → Type 0) where
  -- a branch that was not split, by an answer to it
  whole : (branch : Branch P A) (first answer : Option A) → Allows solves splits branch first → Allows solves splits (joined_at (first, None)) answer
      → Allows solves splits branch answer
  whole branch None None a j = a
  whole branch None (Some y) a j = absurd j
  whole branch (Some x) None a j = absurd j
  whole branch (Some x) (Some y) a j = subst (λ t. Allows solves splits branch (Some t)) (sym j) a

  -- a branch, by what answers its parts
  closes : (branch : Branch P A) (first second : Option A) → Allows solves splits (first_of branch) first → Allows solves splits (second_of branch) second
      → LeadsTo solves splits branch (joined_at (first, second))
  closes (Parts x y) (Some u) (Some v) a b (Some answer) j = (u, v, a, b, j)
  closes (Parts x y) (Some u) (Some v) a b None j = absurd j
  closes (Parts x y) (Some u) None a b answer j = absurd b
  closes (Parts x y) None second a b answer j = absurd a
  closes (Whole x) first None a b answer j = whole (Whole x) first answer a j
  closes (Whole x) first (Some v) a b answer j = absurd b
  closes (Answers x y) first None a b answer j = whole (Answers x y) first answer a j
  closes (Answers x y) first (Some v) a b answer j = absurd b
  closes (Answered x) first None a b answer j = whole (Answered x) first answer a j
  closes (Answered x) first (Some v) a b answer j = absurd b
  closes Nothing first None a b answer j = whole Nothing first answer a j
  closes Nothing first (Some v) a b answer j = absurd b

  -- the branches of a level
  all_close : (branches : List (Branch P A)) (firsts seconds : List (Option A)) → AllZip (Allows solves splits) (map first_of branches) firsts
      → AllZip (Allows solves splits) (map second_of branches) seconds
      → AllZip (LeadsTo solves splits) branches (map joined_at (zip firsts seconds))
  all_close [] [] seconds a b = tt
  all_close [] (f ∷ fs) seconds a b = absurd a
  all_close (x ∷ xs) [] seconds a b = absurd a
  all_close (x ∷ xs) (f ∷ fs) [] a b = absurd b
  all_close (x ∷ xs) (f ∷ fs) (s ∷ ss) a b = (closes x f s a.0 b.0, all_close xs fs ss a.1 b.1)

  -- what answers what became of branches answers them
  pub answer_back : (old new : List (Branch P A)) (answers : List (Option A)) → AllZip (LeadsTo solves splits) old new
      → AllZip (Allows solves splits) new answers → AllZip (Allows solves splits) old answers
  answer_back [] [] [] z a = tt
  answer_back [] [] (x ∷ xs) z a = absurd a
  answer_back [] (n ∷ new) answers z a = absurd z
  answer_back (o ∷ old) [] answers z a = absurd z
  answer_back (o ∷ old) (n ∷ new) [] z a = absurd a
  answer_back (o ∷ old) (n ∷ new) (x ∷ xs) z a = (z.0 x a.0, answer_back old new xs z.1 a.1)

  -- a level, by what answers all parts: all first ones, and behind them all second ones
  pub level_closes : (branches : List (Branch P A)) (answers : List (Option A))
      → AllZip (Allows solves splits) (map first_of branches ++ map second_of branches) answers
      → AllZip (LeadsTo solves splits) branches (map joined_at (zip (take (length answers / 2) answers) (drop (length answers / 2) answers)))
  level_closes branches answers a =
      let n = length (map {B = Branch P A} first_of branches) in
      let halves = all_zip_split (Allows solves splits) (map first_of branches) (map second_of branches) answers a in
      let long : length (map {B = Branch P A} second_of branches) ≡ n = length-map branches second_of ∙ sym (length-map branches first_of) in
      let half : n ≡ length answers / 2 = omega (arith, halves.2, long) in
      subst (λ k. AllZip (LeadsTo solves splits) branches (map joined_at (zip (take k answers) (drop k answers)))) half
      (all_close branches (take n answers) (drop n answers) halves.0 halves.1)
