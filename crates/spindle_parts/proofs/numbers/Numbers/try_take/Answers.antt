-- A try reads word after word, and exchanges at the first unused number.
use Rattle.std.proofs.Common.{rules, ap, arith, ℕ, ◌≡◌, ◌<◌, ◌≤◌, ◌+◌, ◌*◌, ◌%◌, ◌∙◌, sym, refl, suc, subst}
use mir.Syntax.{w64}
use Rattle.std.specs.Int.{bit_at}
use Rattle.std.proofs.lemmas.Nat.Bits.{bit_at-trailing_ones}
use Rattle.spindle_parts.specs.State.{put}
use Rattle.spindle_parts.specs.ThreadNumbers.{IsSameSeat, loading, reading}
use Rattle.spindle_parts.proofs.NumbersKept.{loads}
use Rattle.spindle_parts.proofs.NumberSearch.{ReadTo, reading-holding, reading_next, read_next, try_answer, take_holding, take_below, then_same, still_seated}
use Rattle.spindle_parts.proofs.numbers.Numbers.try_take.Goals as goal
use Rattle.spindle_parts.proofs.numbers.Numbers.try_take.Goals.{else-unused-lt-BITS-via-then-unused-lt-BITS+else-number-self}
use Rattle.spindle_parts.proofs.numbers.Numbers.try_take.Goals.{else-unused-lt-BITS-via-else-unused-lt-BITS}

pub loop-index-init : goal.loop-index-init
loop-index-init c = record { seat = record { table = refl; id = refl; slots = refl }; read = ((λ _. 0), (λ k small lt. absurd (omega arith)), refl) }

pub load-word-requires : goal.load-word-requires
load-word-requires c = (search rules, omega (arith, c.self.invariant), loads _ _ _ _ _)

pub exchange-requires-clause-no_number : goal.exchange-requires-clause-no_number
exchange-requires-clause-no_number c =
    let read = c.loop-index.invariant.read in
    let before = reading-holding read.0 c.loop-index.index c.args.seat.now.me.0 ∙ c.requires.no_number in
    ap (λ v. v.holding) c.load-word.ensures.2.1 ∙ (ap (λ v. v.holding) read.2 ∙ before)

pub exchange-requires-clause-number : goal.exchange-requires-clause-number
exchange-requires-clause-number c =
    let same = ap (λ t. t.threads) c.self.view_is in
    let word = c.load-word.result in
    let ones = bit_at-trailing_ones w64 word (let small = c.load-word.ensures.2.2 in omega arith) in
    let unused = c.trailing_ones-unused.ensures in
    let bit : (32 * c.loop-index.index + c.trailing_ones-unused.result) % 32 ≡ c.trailing_ones-unused.result = omega arith in
    (omega arith, ap (bit_at word) (bit ∙ unused) ∙ ones.1)

pub returns-then-number-self-clause-answer : goal.returns-then-number-self-clause-answer
returns-then-number-self-clause-answer c =
    let same = ap (λ t. t.threads) c.self.view_is in
    let word = c.load-word.result in let i : ℕ = c.loop-index.index in
    let ones = bit_at-trailing_ones w64 word (let small = c.load-word.ensures.2.2 in omega arith) in
    let unset = ap (bit_at word) c.trailing_ones-unused.ensures ∙ ones.1 in
    let unused = c.trailing_ones-unused.ensures in let read = c.loop-index.invariant.read in let below = c.if-number-self.true in
    let all : ReadTo c.args.self.now.threads i read.0 = subst (λ n. ReadTo n i read.0) same read.1 in
    let seen = c.load-word.ensures.2.1 ∙ ap (loading (8 * i) word) read.2 in
    try_answer _ _ _ _ _ c.if-unused-lt-BITS.true (omega arith) unset (λ k lt. ones.2 k (omega arith)) all _ _ _ _ seen c.exchange.ensures.answer

pub returns-then-number-self-clause-number : goal.returns-then-number-self-clause-number
returns-then-number-self-clause-number c = take_holding _ _ _ _ c.requires.no_number (returns-then-number-self-clause-answer c)

pub returns-then-number-self-clause-seat : goal.returns-then-number-self-clause-seat
returns-then-number-self-clause-seat c =
    let load = c.load-word.ensures in
    let loaded : IsSameSeat c.loop-index.seat c.load-word.new.seat = record { table = load.0; id = load.1; slots = load.2.0 } in
    let same = then_same c.loop-index.invariant.seat (then_same loaded c.exchange.ensures.seat) in
    let below = take_below _ _ _ _ (returns-then-number-self-clause-answer c) (returns-then-number-self-clause-number c) in
    (still_seated _ _ _ c.requires.seated same below, same)

pub loop-index-preserved : goal.loop-index-preserved
loop-index-preserved c =
    let load = c.load-word.ensures in let word = c.load-word.result in let i : ℕ = c.loop-index.index in let b : ℕ = c.trailing_ones-unused.result in
    let unused = c.trailing_ones-unused.ensures in
    let ones = bit_at-trailing_ones w64 word (let small = load.2.2 in omega arith) in
    let read = c.loop-index.invariant.read in let found = put read.0 i word in let first = c.args.seat.now.me.0 in
    let next : i + 1 ≡ suc i = omega arith in
    let past : b < 32 → c.self.inside.threads ≤ 32 * i + b = elim c.else-unused-lt-BITS.branch [
      | else-unused-lt-BITS-via-then-unused-lt-BITS+else-number-self w ↦ (λ _. w.if-number-self.false)
      | else-unused-lt-BITS-via-else-unused-lt-BITS w ↦ (λ low. let high = w.if-unused-lt-BITS.false in absurd (omega arith))
    ] in
    let seen = load.2.1 ∙ ap (loading (8 * i) word) read.2 in
    let is = ap (λ n. reading found n first) next ∙ reading_next c.self.inside.threads i word read.0 first in
    record {
      seat = then_same c.loop-index.invariant.seat record { table = load.0; id = load.1; slots = load.2.0 };
      read = (found, read_next _ i word read.0 b (λ k lt _. ones.2 k (omega arith)) past read.1, seen ∙ sym is);
    }

pub returns-clause-answer : goal.returns-clause-answer
returns-clause-answer c = search rules

pub returns-clause-number : goal.returns-clause-number
returns-clause-number c =
    let read = c.loop-index.invariant.read in
    let before = reading-holding read.0 c.loop-index.index c.args.seat.now.me.0 ∙ c.requires.no_number in
    ap (λ v. v.holding) read.2 ∙ before

pub returns-clause-seat : goal.returns-clause-seat
returns-clause-seat c =
    let same = c.loop-index.invariant.seat in
    (still_seated _ _ _ c.requires.seated same (λ k has. absurd (let z = sym (returns-clause-number c) ∙ has in cc)), same)
