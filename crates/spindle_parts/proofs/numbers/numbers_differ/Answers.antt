-- What the rule says of numbers, told of two seats.
use Rattle.std.proofs.Common.{ℕ, zero, suc, ◌<◌, ap, arith, subst, List}
use Rattle.spindle_parts.specs.declared.numbers.plays.View.{View}
use Rattle.spindle_parts.specs.ThreadNumbers.{HasNumber, number_of}
use Rattle.spindle_parts.proofs.numbers.numbers_differ.Goals as goal

-- a number that isn't 0 is above it
above_none : (views : List View) (p k : ℕ) → HasNumber views p k → (HasNumber views p 0 → ⊥) → 0 < k
above_none views p zero h other = absurd (other h)
above_none views p (suc k) h other = omega arith

pub returns : goal.returns
returns c = λ threads s r.
    let leads : HasNumber s.views 0 0 = (r.leader.0, r.leader.1, ap number_of r.leader.2) in
    record {
      differ = λ p q j k apart h g e. apart (r.differ p q k (subst (HasNumber s.views p) e h) g);
      leader = leads;
      others = λ p k apart h. above_none s.views p k h (λ z. apart (r.differ p 0 0 z leads));
      below = r.below;
    }
