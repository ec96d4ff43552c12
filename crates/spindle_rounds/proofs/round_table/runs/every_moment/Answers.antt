-- The run that the rule names is lawful, and the trails tell what is begun and finished in it.
use Rattle.spindle_rounds.proofs.RoundTrails.{trails_begun, trails_finished}
use Rattle.spindle_rounds.proofs.round_table.runs.every_moment.Goals as goal

pub returns : goal.returns
returns g c = λ t s rule. let shown = rule.by_run in let run = rule.run in record {
  laws = c.every_run.ensures run shown.is_run;
  words = shown.words;
  seats = λ p v at. (shown.seats p v at).0;
  deeds = λ p v at. (shown.seats p v at).1;
  begun = λ r k. trails_begun k r run shown.is_run s.views (λ p v at. (shown.seats p v at).1) (λ p le. (shown.beyond p le).2);
  finished = λ r k. trails_finished k r run shown.is_run s.views (λ p v at. (shown.seats p v at).1) (λ p le. (shown.beyond p le).2);
}
