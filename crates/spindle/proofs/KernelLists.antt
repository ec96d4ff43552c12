-- Calls over whole lists: what becomes of parts is what becomes of their list.
use Rattle.std.proofs.Common.{◌≡◌, ℕ, ◌+◌, ◌<◌, List, [], ◌∷◌, ◌++◌, length, take, drop, get_or, set, map, append_assoc, sym, subst, ap, ◌∙◌, arith}
use Rattle.std.proofs.lemmas.List.{take_more, drop_more, take_more_set, drop-set-lt}
use Rattle.std.proofs.lemmas.List.Elements.{All-head, All-tail, All-push}
use Rattle.std.specs.Prelude.{All}
use Rattle.std.specs.List.{AllZip}
use Rattle.spindle_parts.specs.Pieces.{joined}
use Rattle.spindle_parts.proofs.ListLaws.{all_zip_append, map_snoc, joined_snoc, taken_next, dropped_next}

-- one item more, where the items are walked by an index
pub AllZip-next : {A B : Type 0} (R : A → B → Type 0) (xs : List A) (i : ℕ) (x : A) (y : B) (ys : List B) → i < length xs → x ≡ get_or xs i x
    → AllZip R (take i xs) ys → R x y → AllZip R (take (i + 1) xs) (ys ++ y ∷ [])
AllZip-next R xs i x y ys h e z r =
    let answered : AllZip R (take i xs ++ x ∷ []) (ys ++ y ∷ []) = all_zip_append R (take i xs) ys (x ∷ []) (y ∷ []) z (r, tt) in
    rw (take_more xs i x h) (rw (← e) answered)

-- one item more, where each is changed in its place
pub changed_next : {A : Type 0} (R : A → A → Type 0) (old new : List A) (i : ℕ) (x y : A) → i < length new → x ≡ get_or new i x
    → AllZip R (take i old) (take i new) → drop i new ≡ drop i old → R x y
    → AllZip R (take (i + 1) old) (take (i + 1) (set new i y)) × (drop (i + 1) (set new i y) ≡ drop (i + 1) old)
changed_next R old new i x y h e z same r =
    let front : drop i old ≡ x ∷ drop (i + 1) new = sym same ∙ drop_more new i x h ∙ ap (λ t. t ∷ drop (i + 1) new) (sym e) in
    let taken : take (i + 1) old ≡ take i old ++ x ∷ [] = taken_next old i x (drop (i + 1) new) front in
    let left : drop (i + 1) old ≡ drop (i + 1) new = dropped_next old i x (drop (i + 1) new) front in
    let all : AllZip R (take i old ++ x ∷ []) (take i new ++ y ∷ []) = all_zip_append R (take i old) (take i new) (x ∷ []) (y ∷ []) z (r, tt) in
    (rw (taken, take_more_set new i y h) all, drop-set-lt (i + 1) new i y (omega arith) ∙ sym left)

-- one piece more, behind what there was
pub joined-behind : {A T : Type 0} (f : A → List T) (start : List T) (ys : List A) (y : A) (all : List T) → all ≡ start ++ joined (map f ys)
    → all ++ f y ≡ start ++ joined (map f (ys ++ y ∷ []))
joined-behind f start ys y all e =
    rw (map_snoc f ys y, joined_snoc (map f ys) (f y)) (ap (λ t. t ++ f y) e ∙ append_assoc start (joined (map f ys)) (f y))

-- where each task holds this kernel, what became of their parts became of the list that the parts are
pub joined_tasks : {A B K X Y : Type 0} (R : K → X → Y → Type 0) (kernel : K) (held : A → K) (f : A → List X) (g : B → List Y) (old : List A) (new : List B)
    → All (λ a. held a ≡ kernel) old → AllZip (λ a b. AllZip (R (held a)) (f a) (g b)) old new
    → AllZip (R kernel) (joined (map f old)) (joined (map g new))
joined_tasks R kernel held f g [] [] k z = tt
joined_tasks R kernel held f g [] (b ∷ bs) k z = absurd z
joined_tasks R kernel held f g (a ∷ rest) [] k z = absurd z
joined_tasks R kernel held f g (a ∷ rest) (b ∷ bs) k z =
    all_zip_append (R kernel) (f a) (g b) (joined (map f rest)) (joined (map g bs))
    (subst (λ k. AllZip (R k) (f a) (g b)) (All-head (λ a. held a ≡ kernel) a rest k) z.0)
    (joined_tasks R kernel held f g rest bs (All-tail (λ a. held a ≡ kernel) a rest k) z.1)

-- where this holds of each element and another, that holds of what is read off them
pub all_zip_map : {A B X Y : Type 0} (R : X → Y → Type 0) (f : A → X) (g : B → Y) (old : List A) (new : List B) → AllZip (λ a b. R (f a) (g b)) old new
    → AllZip R (map f old) (map g new)
all_zip_map R f g [] [] z = tt
all_zip_map R f g [] (b ∷ bs) z = absurd z
all_zip_map R f g (a ∷ rest) [] z = absurd z
all_zip_map R f g (a ∷ rest) (b ∷ bs) z = (z.0, all_zip_map R f g rest bs z.1)

-- one more behind what of each element this was read off, and Q holds
pub one_more : {T P : Type 0} (Q : T → Type 0) (old new : List T) (t : T) (f : T → P) (done : List P) (p : P) → new ≡ old ++ t ∷ [] → map f old ≡ done
    → f t ≡ p → All Q old → Q t → (map f new ≡ done ++ p ∷ []) × All Q new
one_more Q old new t f done p pushed so is all own =
    (ap (map f) pushed ∙ (map_snoc f old t ∙ (λ j. so j ++ is j ∷ [])), subst (All Q) (sym pushed) (All-push Q old t all own))
