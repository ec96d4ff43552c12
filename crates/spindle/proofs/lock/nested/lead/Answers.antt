-- The leader is one of this lock, with its slots.
use Rattle.std.proofs.Common.{ap, sym, refl, ◌∙◌}
use Rattle.spindle_rounds.specs.declared.threads.tables.ThreadCounts.{ThreadCounts}
use Rattle.spindle.specs.SlotLeaders.{WasLed}
use Rattle.spindle.proofs.lock.nested.lead.Goals as goal

pub f-answer-requires : goal.f-answer-requires
f-answer-requires g c = c.requires.callable c.new-leader.result
    (ap g.J.OpensSlots.slot_count c.new-leader.ensures.state ∙ (c.settle.ensures _ refl ∙ c.new.ensures)) _ refl

pub returns : goal.returns
unfolding WasLed
returns g c = (
  c.new-leader.result,
  _,
  (
    c.new-leader.ensures.threads
        ∙ (ap (λ (k : ThreadCounts). k.most) c.join_as_leader-member.ensures.counts
        ∙ ap (λ t. t.counts.most) (c.deref-2.ensures ∙ (ap (λ n. n.tables.value) c.deref.ensures ∙ sym c.requires.share))),
    ap g.J.OpensSlots.slot_count c.new-leader.ensures.state ∙ (c.settle.ensures _ refl ∙ c.new.ensures),
  ),
  record { shown = _; shows = refl; left = _; met = c.f-answer.ensures; leaves = refl },
)
