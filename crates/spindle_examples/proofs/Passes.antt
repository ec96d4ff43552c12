-- A pass strip by strip is a pass over all values.
use Rattle.std.proofs.Common.{◌≡◌, ℕ, zero, suc, ◌+◌, ◌*◌, ◌/◌, List, [], ◌∷◌, ◌++◌, length, map, get_or, refl, ap, sym, ◌∙◌, arith}
use Rattle.std.specs.List.{AllZip}
use Rattle.spindle.specs.Pieces.{joined, counted}
use Rattle.spindle_examples.proofs.Numbers.{same_values}
use Rattle.spindle.specs.Strips.{first_of, last_of, items_of, told}
use Rattle.spindle.specs.Strip.{Strip}
use Rattle.spindle_examples.specs.Stencil.{before, smooth_at, smooth, smooth_between, IsSmoothed}

-- the first value of two lists
first_append : (xs ys : List ℕ) (d : ℕ) → get_or (xs ++ ys) 0 d ≡ get_or xs 0 (get_or ys 0 d)
first_append [] ys d = refl
first_append (x ∷ xs) ys d = refl

-- two lists after one pass, each between what stands around it
between_append : (b : ℕ) (xs ys : List ℕ) (e : ℕ)
    → smooth_between b (xs ++ ys) e ≡ smooth_between b xs (get_or ys 0 e) ++ smooth_between (last_of b xs) ys e
between_append b [] ys e = refl
between_append b (x ∷ xs) ys e =
    ap (λ n. (b + 2 * x + n) / 4 ∷ smooth_between x (xs ++ ys) e) (first_append xs ys e)
    ∙ ap (λ l. (b + 2 * x + get_or xs 0 (get_or ys 0 e)) / 4 ∷ l) (between_append x xs ys e)

-- what stands at a place after one pass, where the value before all is this one
abbrev at_between : ℕ → List ℕ → ℕ → ℕ
at_between b values at = (get_or (b ∷ values) at 0 + 2 * get_or values at 0 + get_or values (at + 1) 0) / 4

-- place by place
by_place : (b : ℕ) (values : List ℕ) → smooth_between b values 0 ≡ map (at_between b values) (counted 0 (length values))
by_place b [] = refl
by_place b (x ∷ values) =
    let first : ℕ = (b + 2 * x + get_or values 0 0) / 4 in
    ap (λ l. first ∷ l)
    (by_place x values
    ∙ same_values (at_between x values) (at_between b (x ∷ values)) (length values) 0 1 (λ i lt.
    let here : 0 + i ≡ i = omega arith in
    let there : suc i ≡ 1 + i = omega arith in
    let next : suc (i + 1) ≡ suc i + 1 = omega arith in
    ap (at_between x values) here
    ∙ ap (λ k. (get_or (x ∷ values) i 0 + 2 * get_or values i 0 + get_or (x ∷ values) k 0) / 4) next
    ∙ ap (at_between b (x ∷ values)) there))

-- the value before a place, as a read
before_at : (values : List ℕ) (at : ℕ) → get_or (0 ∷ values) at 0 ≡ before values at
before_at values zero = refl
before_at values (suc at) = refl

-- one pass over all values is one between two zeros
pub smooth_is : (values : List ℕ) → smooth_between 0 values 0 ≡ smooth values
smooth_is values =
    by_place 0 values
    ∙ same_values (at_between 0 values) (smooth_at values) (length values) 0 0 (λ i lt.
    ap (λ n. (n + 2 * get_or values (0 + i) 0 + get_or values (0 + i + 1) 0) / 4) (before_at values (0 + i)))

-- strips that know their neighbours, after one pass
told_smooth : (b : ℕ) (strips : List (Strip ℕ (Unit {0})))
    → joined (map (λ strip. smooth_between strip.before strip.items.items strip.behind) (told b strips 0)) ≡ smooth_between b (items_of strips) 0
told_smooth b [] = refl
told_smooth b (strip ∷ strips) =
    let values : List ℕ = strip.items.items in
    ap (λ l. smooth_between b values (first_of (items_of strips) 0) ++ l) (told_smooth (last_of b values) strips)
    ∙ sym (between_append b values (items_of strips) 0)

-- what strips became
updated_values : (old new : List (Strip ℕ (Unit {0}))) → AllZip IsSmoothed old new
    → items_of new ≡ joined (map (λ strip. smooth_between strip.before strip.items.items strip.behind) old)
updated_values [] [] z = refl
updated_values [] (n ∷ new) z = absurd z
updated_values (o ∷ old) [] z = absurd z
updated_values (o ∷ old) (n ∷ new) z =
    ap (λ l. l ++ items_of new) z.0
    ∙ ap (λ l. smooth_between o.before o.items.items o.behind ++ l) (updated_values old new z.1)

-- a round over strips that were told their neighbours is a pass
pub pass_of : (old new : List (Strip ℕ (Unit {0}))) → AllZip IsSmoothed (told 0 old 0) new → items_of new ≡ smooth (items_of old)
pass_of old new z = updated_values (told 0 old 0) new z ∙ told_smooth 0 old ∙ smooth_is (items_of old)
