-- The machine's tests, each with the fact that it decides, and what it means that a whole list of them fails.
use Rattle.std.proofs.Common.{◌≡◌, ◌≢◌, ℕ, Bool, true, false, not, ◌&&◌, eq-eqb, ne_eqb, List, [], ◌∷◌, ◌++◌, refl, ap, ◌∙◌, Option, Some, None, is_some, ◌==◌}
use Rattle.std.proofs.Common.{if◌then◌else◌}
use Rattle.spindle_parts.specs.State.{Status, Out, In, Arrived}
use Rattle.spindle_parts.specs.Machine.{is_out, is_inside, is_waiting, is_party, first}
use Rattle.spindle_parts.specs.declared.steps.Why.{Why}
use Rattle.spindle_parts.proofs.Parties.{by_equal}

-- every test fails
abbrev pub AllFail : List (Why × Bool) → Type 0
AllFail [] = Unit {0}
AllFail (t ∷ ts) = (t.1 ≡ false) × AllFail ts

fails_first : (b : Bool) (why : Why) (o : Option Why) → (if b then Some why else o) ≡ None → (b ≡ false) × (o ≡ None)
fails_first true why o e = absurd cc
fails_first false why o e = (refl, e)

pub all_fail : (ts : List (Why × Bool)) → first ts ≡ None → AllFail ts
all_fail [] e = tt
all_fail (t ∷ ts) e = let r = fails_first t.1 t.0 (first ts) e in (r.0, all_fail ts r.1)

pub none_first : (ts : List (Why × Bool)) → AllFail ts → first ts ≡ None
none_first [] f = refl
none_first (t ∷ ts) f = ap (λ (b : Bool). if b then Some t.0 else first ts) f.0 ∙ none_first ts f.1

pub not_false : (b : Bool) → not b ≡ false → b ≡ true
not_false true e = refl
not_false false e = absurd cc

pub not_true : (b : Bool) → b ≡ true → not b ≡ false
not_true b e = ap not e

pub out_by : (t : Status) → is_out t ≡ true → t ≡ Out
out_by Out e = refl
out_by t e = absurd cc

pub in_by : (t : Status) → is_inside t ≡ true → t ≡ In
in_by In e = refl
in_by t e = absurd cc

pub waiting_by : (t : Status) → is_waiting t ≡ true → t ≡ Arrived
waiting_by Arrived e = refl
waiting_by t e = absurd cc

pub none_by : (o : Option ℕ) → is_some o ≡ false → o ≡ None
none_by None e = refl
none_by (Some k) e = absurd cc

pub some_by : (o : Option ℕ) → is_some o ≡ true → (k : ℕ) × (o ≡ Some k)
some_by None e = absurd cc
some_by (Some k) e = (k, refl)

pub is_some_of : (o : Option ℕ) → o ≢ None → is_some o ≡ true
is_some_of None n = absurd (n refl)
is_some_of (Some k) n = refl

pub party_by : (o : Option ℕ) (p : ℕ) → is_party o p ≡ true → o ≡ Some p
party_by None p e = absurd cc
party_by (Some c) p e = by_equal c p (λ z. ap (λ (k : ℕ). let o : Option ℕ = Some k in o) z) (λ n. let f = ne_eqb c p n in absurd cc)

pub is_party_of : (o : Option ℕ) (p : ℕ) → o ≡ Some p → is_party o p ≡ true
is_party_of o p e = ap (λ (z : Option ℕ). is_party z p) e ∙ eq-eqb p p refl

pub equal_by : (a b : ℕ) → (a == b) ≡ true → a ≡ b
equal_by a b e = by_equal a b (λ z. z) (λ n. let f = ne_eqb a b n in absurd cc)

pub differ_by : (a b : ℕ) → (a == b) ≡ false → a ≢ b
differ_by a b e z = let f = eq-eqb a b z in cc

pub and_left : (a b : Bool) → (a && b) ≡ true → a ≡ true
and_left true b e = refl
and_left false b e = absurd cc

pub and_right : (a b : Bool) → (a && b) ≡ true → b ≡ true
and_right true b e = e
and_right false b e = absurd cc

pub unless : (a b : Bool) → (a ≡ true → b ≡ false) → (a && b) ≡ false
unless true b f = f refl
unless false b f = refl

-- tests of which the former all fail, or one doesn't
pub first_past : (xs ys : List (Why × Bool)) → first xs ≡ None → first (xs ++ ys) ≡ first ys
first_past [] ys e = refl
first_past (t ∷ xs) ys e = let r = fails_first t.1 t.0 (first xs) e in ap (λ (b : Bool). if b then Some t.0 else first (xs ++ ys)) r.0 ∙ first_past xs ys r.1

pub first_stops : (xs ys : List (Why × Bool)) (why : Why) → first xs ≡ Some why → first (xs ++ ys) ≡ Some why
first_stops [] ys why e = absurd cc
first_stops (t ∷ xs) ys why e = keep t.1 t.0 why (first xs) (first (xs ++ ys)) (first_stops xs ys why) e
  where
    keep : (b : Bool) (w why : Why) (o o' : Option Why)
        → (o ≡ Some why → o' ≡ Some why) → (if b then Some w else o) ≡ Some why → (if b then Some w else o') ≡ Some why
    keep true w why o o' f is = is
    keep false w why o o' f is = f is
