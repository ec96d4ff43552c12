-- Both runs go as far, and the pairs of their parts are part of the pairs.
use Rattle.std.proofs.Common.{arith, length}
use Rattle.std.proofs.Math.Nat.{min-le_left, min-le_right}
use Rattle.std.proofs.lemmas.Slice.Zip.{length-zip}
use Rattle.spindle.proofs.Pairs.{zip-range}
use Rattle.spindle.proofs.kernels.pairs.PairRunSource.part.Goals as goal

pub run-requires-clause-in_run : goal.run-requires-clause-in_run
run-requires-clause-in_run g c =
    let run = c.args.self.now in omega (arith, c.requires.in_list, length-zip run.first run.second, min-le_left (length run.first) (length run.second))

pub run-requires-2-clause-in_run : goal.run-requires-2-clause-in_run
run-requires-2-clause-in_run g c =
    let run = c.args.self.now in omega (arith, c.requires.in_list, length-zip run.first run.second, min-le_right (length run.first) (length run.second))

pub returns : goal.returns
returns g c = rw (c.in_ok-first.ensures, c.in_ok-second.ensures) (zip-range c.args.from c.args.to c.args.self.now.first c.args.self.now.second)
