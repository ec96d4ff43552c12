-- Where some bite wins, the board is won.
use Rattle.std.proofs.Common.{rules}
use Rattle.spindle_examples.proofs.Evaluations.{wins_where}
use Rattle.spindle_examples.proofs.evaluator.EvaluateJob.run.Goals as goal

pub returns : goal.returns
returns g c = search (wins_where c.args.board.now, rules)
