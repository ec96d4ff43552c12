-- The lengths: one more of the first kind, and then of the second kind.
use Rattle.std.proofs.Common.{◌≡◌, ℕ, ◌+◌, ◌-◌, ◌≤◌, ◌++◌, ◌∷◌, [], length, length-append, replicate, append_assoc, arith, rules, sym, ap, ◌∙◌, vec_len}
use Rattle.std.proofs.lemmas.List.{replicate_more, length-replicate, append-nil}
use Rattle.spindle_parts.proofs.cut.piece_lengths.Goals as goal

-- the first run alone, as the second one begins
first_all : (n a x y : ℕ) → n ≤ a → a ≤ n → replicate n x ≡ replicate a x ++ replicate (a - a) y
first_all n a x y h k = let e : n ≡ a = omega (arith, h, k) in let z : a - a ≡ 0 = omega arith in rw (e, z) (sym (append-nil (replicate a x)))

-- as many as were counted, the first run among them
length_both : (a n x y : ℕ) → a ≤ n → length (replicate a x ++ replicate (n - a) y) ≡ n
length_both a n x y h = omega (arith, h, length-append (replicate a x) (replicate (n - a) y), length-replicate a x, length-replicate (n - a) y)

-- one more at the end of the second run
second_more : (a b : ℕ) (x y : ℕ) → a ≤ b → replicate a x ++ replicate (b + 1 - a) y ≡ (replicate a x ++ replicate (b - a) y) ++ y ∷ []
second_more a b x y h =
    let e : b + 1 - a ≡ b - a + 1 = omega arith in
    rw e (ap (λ t. replicate a x ++ t) (sym (replicate_more (b - a) y)) ∙ sym (append_assoc (replicate a x) (replicate (b - a) y) (y ∷ [])))

pub returns-in_err-lengths-clause-nothing : goal.returns-in_err-lengths-clause-nothing
returns-in_err-lengths-clause-nothing c = search rules

pub push_reserved-requires : goal.push_reserved-requires
push_reserved-requires c =
    let n : vec_len c.loop-number.lengths ≡ c.loop-number._number = c.loop-number.lengths.ok.0 ∙ ap length c.loop-number.invariant ∙ length-replicate _ _ in
    grind (arith, n)

pub loop-number-preserved : goal.loop-number-preserved
loop-number-preserved c = rw (c.push_reserved.ensures.items, c.loop-number.invariant) (replicate_more _ _)

pub loop-number-2-init : goal.loop-number-2-init
loop-number-2-init c = c.loop-number.invariant ∙ first_all _ _ _ _ c.loop-number.auto._number-end c.loop-number-test.false

pub push_reserved-requires-in-loop-number-2 : goal.push_reserved-requires-in-loop-number-2
push_reserved-requires-in-loop-number-2 c =
    let n : vec_len c.loop-number-2.lengths ≡ c.loop-number-2._number =
    c.loop-number-2.lengths.ok.0 ∙ ap length c.loop-number-2.invariant ∙ length_both _ _ _ _ c.loop-number-2.auto._number in
    grind (arith, n)

pub loop-number-2-preserved : goal.loop-number-2-preserved
loop-number-2-preserved c =
    rw (c.push_reserved-in-loop-number-2.ensures.items, c.loop-number-2.invariant) (sym (second_more _ _ _ _ c.loop-number-2.auto._number))

pub returns-clause-lengths : goal.returns-clause-lengths
returns-clause-lengths c = search rules
