use Rattle.std.proofs.Common.{rules}
use Rattle.spindle_parts.proofs.aarc_imp.AtomicArc.load.Goals as goal

pub get-requires : goal.get-requires
get-requires g c = search rules

pub leave-requires : goal.leave-requires
leave-requires g c = search rules

pub invariant_of-result : goal.invariant_of-result
invariant_of-result g c = search rules
