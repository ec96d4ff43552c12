-- The headline is what these calls promise.
use Rattle.spindle_rounds.proofs.round_table.runs.headline.Goals as goal

pub returns : goal.returns
returns g c = record {
  runs = c.every_run.ensures;
  steps = c.every_step.ensures;
  moments = c.every_moment.ensures;
  numbers = c.numbers_differ.ensures;
  books = c.books_balance.ensures;
}
