-- The round table was opened for these threads.
use Rattle.std.proofs.Common.{[], true, ap, sym, ◌∙◌, rules}
use Rattle.spindle_rounds.specs.RoundSteps.{outsider}
use Rattle.spindle.proofs.lock.slot_root.make.Goals as goal

pub with_slots-requires : goal.with_slots-requires
with_slots-requires g c = record { threads = (c.threads-threads.ensures.some, c.threads-threads.ensures.most) }

pub new-requires : goal.new-requires
new-requires g c = let opened = c.in_ok-round.ensures.opened in record {
  sized = opened.0 ∙ c.threads-threads.ensures.number;
  seated = opened.1;
  outside = opened.4 ∙ ap (λ n. (outsider n true, [])) (sym opened.0);
}

pub returns-clause-made : goal.returns-clause-made
returns-clause-made g c = search rules
