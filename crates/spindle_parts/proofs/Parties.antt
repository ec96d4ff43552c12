-- Cases, reads after writes, counts over the parties, and states with other parties.
use Rattle.std.proofs.Common.{◌≡◌, ◌≢◌, ℕ, zero, suc, ◌+◌, ◌≤◌, Bool, true, false, eq-eqb, ne_eqb, List, [], ◌∷◌, ◌++◌, sym, refl, ap, subst, arith, ◌==◌, Some}
use Rattle.std.proofs.Common.{if◌then◌else◌, Option, None}
use mathlib.Core.Logic.{dite}
use native.Mathlib.Decide.{ℕ_discrete, dec_le}
use Rattle.spindle_parts.specs.State.{Status, Out, Party, Round, State, party, put, absent, party_of, put_party, total, is_in, is_member, inside, members, wake}
use Rattle.spindle_parts.specs.State.{times, waking}
use Rattle.spindle_parts.specs.Steps.{with_status}

-- two numbers are equal or differ
pub by_equal : {P : Type 0} (a b : ℕ) → (a ≡ b → P) → (a ≢ b → P) → P
by_equal a b = dite (ℕ_discrete a b)

-- a is at most b, or isn't
pub by_order : {P : Type 0} (a b : ℕ) → (a ≤ b → P) → ((a ≤ b → ⊥) → P) → P
by_order a b = dite (dec_le a b)

-- where it is tested whether a number is 0
pub by_zero : (P : Bool → Type 0) (n : ℕ) → (n ≡ 0 → P true) → (n ≢ 0 → P false) → P (n == 0)
by_zero P n none some = by_equal n 0 (λ e. subst P (sym (eq-eqb n 0 e)) (none e)) (λ e. subst P (sym (ne_eqb n 0 e)) (some e))

-- by what an option is
pub by_option : {P : Type 0} (o : Option ℕ) → (o ≡ None → P) → ((k : ℕ) → o ≡ Some k → P) → P
by_option None none some = none refl
by_option (Some k) none some = some k refl

-- the parties of s, but p stands so
abbrev pub moved : State → ℕ → Status → List Party
moved s p t = put_party s.parties p (with_status t (party s p))

-- the state s, but with those parties, that closer and those rounds
abbrev pub with_parties : State → List Party → Option ℕ → (ℕ → Round) → State
with_parties s ps c rounds = record { round = s.round; parties = ps; closer = c; published = s.published; rounds = rounds }

-- the state s one round later, with those parties and that closer
abbrev pub next_round : State → List Party → Option ℕ → State
next_round s ps c = record { round = s.round + 1; parties = ps; closer = c; published = s.published; rounds = s.rounds }

module _ {A : Type 0} where
  pub put_here : (f : ℕ → A) (k : ℕ) (x : A) → put f k x k ≡ x
  put_here f k x = ap (λ b. if b then x else f k) (eq-eqb k k refl)

  pub put_else : (f : ℕ → A) (k : ℕ) (x : A) (j : ℕ) → j ≢ k → put f k x j ≡ f j
  put_else f k x j other = ap (λ b. if b then x else f j) (ne_eqb j k other)

-- what holds of x at k, and of f elsewhere, holds of the two together
pub put_all : {A : Type 0} (P : ℕ → A → Type 0) (f : ℕ → A) (k : ℕ) (x : A) → P k x → ((j : ℕ) → j ≢ k → P j (f j)) → (j : ℕ) → P j (put f k x j)
put_all P f k x here away j = by_equal j k
    (λ e. subst (λ (z : ℕ). P z (put f k x z)) (sym e) (subst (P k) (sym (put_here f k x)) here)) (λ n. subst (P j) (sym (put_else f k x j n)) (away j n))

pub look_here : (l : List Party) (p : ℕ) (y : Party) → party_of (put_party l p y) p ≡ y
look_here [] (suc p) y = look_here [] p y
look_here (x ∷ xs) (suc p) y = look_here xs p y
look_here l p y = refl

pub look_else : (l : List Party) (p : ℕ) (y : Party) (q : ℕ) → q ≢ p → party_of (put_party l p y) q ≡ party_of l q
look_else [] zero y zero other = absurd (other refl)
look_else [] (suc p) y (suc q) other = look_else [] p y q (λ e. other (ap suc e))
look_else (x ∷ xs) zero y zero other = absurd (other refl)
look_else (x ∷ xs) (suc p) y (suc q) other = look_else xs p y q (λ e. other (ap suc e))
look_else l p y q other = refl

pub total_put : (w : Party → ℕ) → w absent ≡ 0 → (l : List Party) (p : ℕ) (y : Party) → total w (put_party l p y) + w (party_of l p) ≡ total w l + w y
total_put w z [] (suc p) y = let r = total_put w z [] p y in omega arith
total_put w z (x ∷ xs) (suc p) y = let r = total_put w z xs p y in omega arith
total_put w z l p y = omega arith

pub total_at : (w : Party → ℕ) → w absent ≡ 0 → (l : List Party) (p : ℕ) → w (party_of l p) ≤ total w l
total_at w z (x ∷ xs) (suc p) = let r = total_at w z xs p in omega arith
total_at w z l p = omega arith

pub in_le_member : (t : Status) → is_in t ≤ is_member t
in_le_member Out = omega arith
in_le_member t = omega arith

pub inside_le_members : (l : List Party) → inside l ≤ members l
inside_le_members [] = omega arith
inside_le_members (x ∷ xs) = let a = in_le_member x.status in let r = inside_le_members xs in omega arith

pub look_wake : (l : List Party) (p : ℕ) → party_of (wake l) p ≡ with_status (waking (party_of l p).status) (party_of l p)
look_wake (x ∷ xs) (suc p) = look_wake xs p
look_wake l p = refl

woken : (t : Status) → (is_in (waking t) ≡ is_member t) × (is_member (waking t) ≡ is_member t)
woken Out = (refl, refl)
woken t = (refl, refl)

pub inside_wake : (l : List Party) → inside (wake l) ≡ members l
inside_wake [] = refl
inside_wake (x ∷ xs) = let a = (woken x.status).0 in let r = inside_wake xs in omega arith

pub members_wake : (l : List Party) → members (wake l) ≡ members l
members_wake [] = refl
members_wake (x ∷ xs) = let a = (woken x.status).1 in let r = members_wake xs in omega arith

pub times_snoc : (k : ℕ) (xs : List ℕ) (y : ℕ) → times k (xs ++ y ∷ []) ≡ times k xs + (if y == k then 1 else 0)
times_snoc k [] y = omega arith
times_snoc k (x ∷ xs) y = let r = times_snoc k xs y in omega arith

abbrev pub tick : ℕ → ℕ → ℕ
tick y k = if y == k then 1 else 0

pub tick_same : (k : ℕ) → tick k k ≡ 1
tick_same k = ap (λ (b : Bool). if b then 1 else 0) (eq-eqb k k refl)

pub tick_else : (y k : ℕ) → y ≢ k → tick y k ≡ 0
tick_else y k n = ap (λ (b : Bool). if b then 1 else 0) (ne_eqb y k n)

-- one more k in a list
pub times_same : (k : ℕ) (xs : List ℕ) → times k (xs ++ k ∷ []) ≡ times k xs + 1
times_same k xs = let a = times_snoc k xs k in let b = tick_same k in omega arith

pub times_else : (k : ℕ) (xs : List ℕ) (y : ℕ) → k ≢ y → times k (xs ++ y ∷ []) ≡ times k xs
times_else k xs y n = let a = times_snoc k xs y in let b = tick_else y k (λ e. n (sym e)) in omega arith

pub put_again : {A : Type 0} (f : ℕ → A) (k : ℕ) → put f k (f k) ≡ f
put_again f k i j = put_all (λ j x. x ≡ f j) f k (f k) refl (λ j _. refl) j i
