-- The leader stands where it stood as a member.
use Rattle.std.proofs.Common.{◌%◌, ap, sym, subst, ◌∙◌}
use Rattle.spindle_rounds.specs.declared.round_table.view.Standing.TheVariants.{Inside}
use Rattle.spindle_rounds.specs.RoundSteps.{round_of}
use Rattle.spindle_rounds.specs.Working.{IsIdle}
use Rattle.spindle_rounds.proofs.threads.leader_member.LeaderMember.part.Goals as goal

pub returns-clause-leads : goal.returns-clause-leads
returns-clause-leads g c = let p = c.args.self.member in let q = c.part.ensures in let u = ap (λ z. z.me.0.standing) q.seat in (
  ap (λ z. z.table_id) q.seat ∙ p.seated,
  ap (λ z. z.me.0.threads) q.seat ∙ p.sized,
  ap (λ z. z.me.0.leader) q.seat ∙ c.args.self.leads,
  u ∙ (p.inside ∙ ap (λ z. Inside (round_of z)) (sym u)),
  ap (λ z. z.me.0.known.unpublished) q.seat ∙ (p.role ∙ c.args.self.leads),
  subst (λ z. IsIdle z.me.0) (sym q.seat) p.idle,
  q.sense ∙ (p.sense ∙ ap (λ z. round_of z % 2) (sym u)),
  q.member ∙ p.member,
)
