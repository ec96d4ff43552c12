-- The loads and the exchange of a claim on the remainder keep the table's rule.
use Rattle.std.proofs.Common.{rules, arith, ◌≡◌, ◌∙◌, ℕ, ◌-◌, ap, subst, sym}
use Rattle.spindle_rounds.specs.RoundConditions.{MayClaim}
use Rattle.spindle_rounds.specs.Words.{remainder_at}
use Rattle.spindle_rounds.specs.RoundSteps.{missing, claiming_remainder, number_or}
use Rattle.spindle_rounds.proofs.RoundMoves.{kept}
use Rattle.spindle_rounds.proofs.KeptLoads.{remainder_reads, recalls}
use Rattle.spindle_rounds.proofs.KeptSteals.{remainder_claims}
use Rattle.spindle_rounds.proofs.RoundSearch.{took_at, recalled_view}
use Rattle.spindle_rounds.proofs.round.Round.try_claim_rest.Goals as goal

pub load-rest-requires : goal.load-rest-requires
load-rest-requires g c = (search rules, omega arith, kept (remainder_reads g.D.SlotContents.discipline g.met.D.SlotContents.lawful _ _ _ _))

pub load-jobs-requires : goal.load-jobs-requires
load-jobs-requires g c = (search rules, omega arith, kept (recalls g.D.SlotContents.discipline g.met.D.SlotContents.lawful _ _ _ _))

pub compare_exchange-found-requires : goal.compare_exchange-found-requires
compare_exchange-found-requires g c = let r = recalled_view _ _ _ _ _ c.requires.free c.load-rest.ensures.2.1 c.load-jobs.ensures.2.1 in (
  search rules,
  omega arith,
  kept (remainder_claims g.D.SlotContents.discipline g.met.D.SlotContents.lawful _ _ _ _ _ (subst MayClaim (sym r.0) c.requires.free) (omega arith)),
)

pub overflow_sub-jobs : goal.overflow_sub-jobs
overflow_sub-jobs g c = let m = c.requires.free in let r = recalled_view _ _ _ _ _ c.requires.free c.load-rest.ensures.2.1 c.load-jobs.ensures.2.1 in
    let few = c.load-rest.ensures.2.2 m.0.0 m.1.0 m.0.1 m.1.1 in let is = r.1 in
    let n : number_or c.args.seat.now.me.0.known.number ≡ m.1.0 = ap number_or m.1.1 in omega arith

pub returns-then-found-rest-clause-step : goal.returns-then-found-rest-clause-step
returns-then-found-rest-clause-step g c = let n : ℕ = number_or c.args.seat.now.me.0.known.number in let v : ℕ = c.load-rest.result in
    let r = recalled_view _ _ _ _ _ c.requires.free c.load-rest.ensures.2.1 c.load-jobs.ensures.2.1 in let hit = c.if-found-rest.true in
    let b = c.compare_exchange-found.ensures.2.0 hit in let same = ap (λ w. number_or w.known.number) r.0 in
    let is : c.new.result ≡ n - v = c.new.ensures ∙ ap (λ (z : ℕ). z - v) r.1 in (
      v,
      b.0,
      b.1 ∙ (λ i. claiming_remainder (same i) (hit i) b.0 (r.0 i)),
      took_at g.D.SlotContents.discipline _ _ _ _ _ b.0 ((λ i. same i - hit i) ∙ sym is) (c.load-jobs.ensures.2.0 ∙ c.load-rest.ensures.2.0) b.2,
      is,
      omega arith,
    )

pub returns-else-found-rest-clause-step : goal.returns-else-found-rest-clause-step
returns-else-found-rest-clause-step g c = let v : ℕ = c.load-rest.result in
    let r = recalled_view _ _ _ _ _ c.requires.free c.load-rest.ensures.2.1 c.load-jobs.ensures.2.1 in let miss = c.if-found-rest.false in
    let b = c.compare_exchange-found.ensures.2.1 miss in (
      v,
      c.compare_exchange-found.result,
      (λ i. ((b.1 ∙ ap (missing remainder_at c.compare_exchange-found.result) r.0) i, (b.0 ∙ (c.load-jobs.ensures.2.0 ∙ c.load-rest.ensures.2.0)) i)),
      miss,
      omega arith,
    )
