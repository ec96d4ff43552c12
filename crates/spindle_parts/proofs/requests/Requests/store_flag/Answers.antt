-- The store announces by one of the two flags.
use Rattle.std.proofs.Common.{rules, arith, ⊎_elim}
use Rattle.spindle_parts.proofs.LedgerMoves.{announces, one_or_none}
use Rattle.spindle_parts.proofs.requests.Requests.store_flag.Goals as goal

pub store-requires : goal.store-requires
store-requires c = (search rules, ⊎_elim (λ h. omega arith) (λ h. omega arith) c.requires.word, announces _ _ _ _ _ _ c.requires.word (one_or_none c.args.flag))
