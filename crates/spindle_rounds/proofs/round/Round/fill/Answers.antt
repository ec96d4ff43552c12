-- Each store of `fill` keeps the table's rule, and the next word stands.
use Rattle.std.proofs.Common.{rules, arith, ◌≡◌, ◌∙◌, ℕ, ◌+◌, ◌*◌, ◌/◌, suc, ap, sym, refl, subst, ◌%◌}
use Rattle.spindle_rounds.specs.Words.{range_at, filled_at, high_half}
use Rattle.spindle_rounds.specs.RoundSteps.{filling}
use Rattle.spindle_rounds.specs.RoundConditions.{MayFill}
use Rattle.spindle_rounds.specs.RoundAnswers.{filled_view, FilledBy}
use Rattle.spindle_rounds.specs.RoundRule.{fill_value}
use Rattle.spindle_rounds.proofs.RoundMoves.{kept}
use Rattle.spindle_rounds.proofs.KeptFill.{fills, fills_range}
use Rattle.spindle_rounds.proofs.RoundFilled.{filled_next, filled_stands}
use Rattle.spindle_rounds.proofs.round.Round.fill.Goals as goal

pub store-requires : goal.store-requires
store-requires g c = let l = c.requires.leads in (
  search rules,
  omega arith,
  kept (fills g.D.SlotContents.discipline g.met.D.SlotContents.lawful _ _ _ _ _ 0 _ (omega arith) l.0.1 l.1),
)

pub store-requires-2 : goal.store-requires-2
store-requires-2 g c = let l = subst MayFill (sym c.store.ensures.2.1) c.requires.leads in
    (search rules, omega arith, kept (fills g.D.SlotContents.discipline g.met.D.SlotContents.lawful _ _ _ _ _ 1 _ (omega arith) l.0.1 l.1))

pub store-requires-3 : goal.store-requires-3
store-requires-3 g c = let l = subst MayFill (sym c.store-2.ensures.2.1) (subst MayFill (sym c.store.ensures.2.1) c.requires.leads) in
    (search rules, omega arith, kept (fills g.D.SlotContents.discipline g.met.D.SlotContents.lawful _ _ _ _ _ 2 _ (omega arith) l.0.1 l.1))

pub loop-i-init : goal.loop-i-init
loop-i-init g c = let t = c.args.self.now.init.threads in let n = c.args.jobs in let v = c.args.seat.now.me.0 in let e = c.store-3.ensures.2.1 in (
  search rules,
  search rules,
  c.store-3.ensures.2.0 ∙ (c.store-2.ensures.2.0 ∙ c.store.ensures.2.0),
  filled_next t n v 2 (n % t) _ _ (filled_next t n v 1 0 _ _ c.store.ensures.2.1 refl c.store-2.ensures.2.1) refl e,
)

pub store-requires-in-loop-i : goal.store-requires-in-loop-i
store-requires-in-loop-i g c = let i = c.loop-i.i in let l = subst MayFill (sym c.loop-i.invariant.3) c.requires.leads in
    (search rules, omega arith, kept (fills_range g.D.SlotContents.discipline g.met.D.SlotContents.lawful _ _ _ _ _ i _ (omega arith) l.0.1 l.1))

pub loop-i-preserved : goal.loop-i-preserved
loop-i-preserved g c = let i = c.loop-i.i in let t = c.args.self.now.init.threads in let n = c.args.jobs in let v = c.args.seat.now.me.0 in
    let f = c.loop-i.invariant in let e = c.store-in-loop-i.ensures in let x : ℕ = n / t * i + high_half * (n / t * i + n / t) in
    let at : range_at i ≡ filled_at (3 + i) = omega arith in let third : suc (suc (suc i)) ≡ 3 + i = omega arith in
    let next : suc (3 + i) ≡ 3 + (i + 1) = omega arith in (
      e.0 ∙ f.0,
      e.1 ∙ f.1,
      e.2.0 ∙ f.2,
      subst (λ (j : ℕ). c.store-in-loop-i.new.seat.me.0 ≡ filled_view t n j v) next
          (filled_next t n v (3 + i) x c.loop-i.seat.me.0 _ f.3 (ap (fill_value t n) third) (e.2.1 ∙ ap (λ (k : ℕ). filling k x c.loop-i.seat.me.0) at)),
    )

pub returns-clause-filled : goal.returns-clause-filled
returns-clause-filled g c = let t = c.args.self.now.init.threads in let n = c.args.jobs in let v = c.args.seat.now.me.0 in
    let all : c.loop-i.i ≡ t = omega arith in let e = subst (λ (k : ℕ). c.loop-i.seat.me.0 ≡ filled_view t n (3 + k) v) all c.loop-i.invariant.3 in
    subst (FilledBy t n v) (sym e) (refl, filled_stands t n v.known.stored (3 + t))
