-- The counter read is above 0 and at most its thread's own jobs, so the job claimed is one of these.
use Rattle.std.proofs.Common.{◌≡◌, ◌≢◌, ℕ, ◌<◌, ◌≤◌, ◌+◌, ◌*◌, ◌-◌, ◌/◌, List, length, get_or, set, sym, ap, ◌∙◌, arith, Option, Some, None, unwrap_or, ne_eqb}
use Rattle.std.proofs.Common.{Bool, not, ltb, ◌==◌, [], ◌∷◌}
use Rattle.std.proofs.lemmas.Grind.{get_or_default_zero}
use Rattle.std.proofs.lemmas.Bool.{lt-ltb}
use Rattle.std.proofs.lemmas.List.Sums.{sum_by-set}
use Rattle.spindle_parts.specs.Machine.{Configuration, first, counter, claimed, claim_tests, with_running}
use Rattle.spindle_parts.specs.Registers.{shown}
use Rattle.spindle_parts.specs.declared.steps.Why.{Why}
use Rattle.spindle_parts.specs.declared.steps.Why.TheVariants.{Range, Empty}
use Rattle.spindle_parts.proofs.Tests.{all_fail, none_first, first_past, not_true, not_false}
use Rattle.spindle_parts.proofs.Reached.{bounds}
use Rattle.spindle_parts.proofs.Marks.{known_inside, running_kept, runs_shown}
use Rattle.spindle_parts.proofs.steps.registers.Registers.claim.Goals as goal

pub overflow_cast-threads : goal.overflow_cast-threads
overflow_cast-threads c = let few = (bounds (shown c.args.self.now) c.requires.reached).few in
    let n = c.len-threads.ensures in let size = c.args.self.now.counters.ok.0 in omega arith

-- the value read is the counter's
value_is : (cs : List ℕ) (t v : ℕ) → t < length cs → v ≡ get_or cs t v → v ≡ get_or cs t 0
value_is cs t v lt is = is ∙ get_or_default_zero cs t v lt

-- a counter is at most its thread's own jobs, however many the threads are
value_fits : (v n len size t : ℕ) → len ≡ size → v ≤ n / size → v ≤ n / len * t + n / len
value_fits v n len size t e le = let f = ap (λ (z : ℕ). n / z) e in omega arith

pub overflow_sub-number : goal.overflow_sub-number
overflow_sub-number c = let r = c.args.self.now in
    let t = c.args.thread in let lt = c.if-thread-threads.false in let n = c.len-threads.ensures in let size = r.counters.ok.0 in
    let own = (bounds (shown r) c.requires.reached).counters c.in_ok-count.count c.in_ok-count.ensures.published t (omega arith) in
    let v = value_is r.counters.items t c.index-value.result.now (omega arith) c.index-value.ensures in
    value_fits c.index-value.result.now c.in_ok-count.count c.len-threads.result (length r.counters.items) t (n ∙ size) (omega arith)

-- the job that the counter stands for first
number_is : (m : Configuration) (n len t v : ℕ) → m.published ≡ Some n → len ≡ length m.counters → v ≡ counter m t → n / len * t + n / len - v ≡ claimed m t
number_is m n len t v e f g = (λ i. n / f i * t + n / f i - g i)
    ∙ sym (ap (λ (o : Option ℕ). unwrap_or o 0 / length m.counters * t + unwrap_or o 0 / length m.counters - counter m t) e)

-- the tests that only a claim of a counter makes
abbrev own_tests : Configuration → ℕ → List (Why × Bool)
own_tests m t = (Range, not (ltb t (length m.counters))) ∷ (Empty, counter m t == 0) ∷ []

own_pass : (m : Configuration) (t : ℕ) → t < length m.counters → counter m t ≢ 0 → first (own_tests m t) ≡ None
own_pass m t lt n = none_first (own_tests m t) (not_true _ (lt-ltb t (length m.counters) lt), (ne_eqb (counter m t) 0 n, tt))

pub returns-clause-served : goal.returns-clause-served
returns-clause-served c = let r = c.args.self.now in
    let t = c.args.thread in let p = c.args.party in let lt = c.if-thread-threads.false in let n = c.len-threads.ensures in let size = r.counters.ok.0 in
    let below : t < length r.counters.items = omega arith in
    let v = value_is r.counters.items t c.index-value.result.now below c.index-value.ensures in
    let number = number_is (shown r) c.in_ok-count.count c.len-threads.result t c.index-value.result.now c.in_ok-count.ensures.published (n ∙ size) v in (
      first_past (claim_tests (shown r) p) (own_tests (shown r) t) c.in_ok-count.ensures.tests ∙ own_pass (shown r) t below (λ z. c.if-value-eq0.false (v ∙ z)),
      let x : ℕ = c.in_ok-count.count / c.len-threads.result * t + c.in_ok-count.count / c.len-threads.result - c.index-value.result.now in
          let inn = not_false _ (all_fail (claim_tests (shown r) p) c.in_ok-count.ensures.tests).0 in
          let seats = runs_shown r.sense r.saw.items r.entries c.set_running.new.entries p (Some x) (known_inside r p inn) c.set_running.ensures.written in
          (λ i. record (shown r) { seat = seats i; counters = set r.counters.items t (c.index-value.result.now - 1) })
          ∙ (λ i. record (shown r) { seat = with_running (shown r) p (Some (number i)); counters = set r.counters.items t (v i - 1) }),
    )

pub returns-clause-tidy : goal.returns-clause-tidy
returns-clause-tidy c = let r = c.args.self.now in let t = c.args.thread in
    let p = c.args.party in let lt = c.if-thread-threads.false in let n = c.len-threads.ensures in let size = r.counters.ok.0 in let y = c.requires.tidy in
    let below : t < length r.counters.items = omega arith in
    let v = value_is r.counters.items t c.index-value.result.now below c.index-value.ensures in let some = c.if-value-eq0.false in
    let inn = not_false _ (all_fail (claim_tests (shown r) p) c.in_ok-count.ensures.tests).0 in let left = y.left in
    let s = sum_by-set (λ (k : ℕ). k) r.counters.items t (c.index-value.result.now - 1) 0 below in record {
      marks = running_kept r.entries _ _ _ p y.marks (known_inside r p inn) _ c.set_running.ensures.written;
      left = omega arith;
      inside = y.inside;
      members = y.members;
    }
