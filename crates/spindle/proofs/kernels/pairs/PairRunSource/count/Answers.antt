-- As many pairs as the shorter run has items.
use Rattle.std.proofs.Common.{refl}
use Rattle.std.proofs.lemmas.Slice.Zip.{length-zip}
use Rattle.spindle.proofs.kernels.pairs.PairRunSource.count.Goals as goal

pub returns : goal.returns
returns g c = rw (length-zip c.args.self.now.first c.args.self.now.second, c.min.ensures, c.len.ensures, c.len-2.ensures) refl
