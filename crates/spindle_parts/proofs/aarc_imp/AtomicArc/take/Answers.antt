use Rattle.std.proofs.Common.{rules}
use Rattle.spindle_parts.proofs.aarc_imp.AtomicArc.take.Goals as goal

pub put-requires : goal.put-requires
put-requires g c = search rules
