-- Each number is a piece, so the slots hold the pieces.
use Rattle.std.proofs.Common.{sym}
use Rattle.spindle_parts.specs.Pieces.{counted}
use Rattle.spindle_parts.proofs.Deals.{length-counted}
use Rattle.spindle_locks.proofs.SlotRounds.{items_are_pieces}
use Rattle.spindle_locks.proofs.pieces.items.NumbersFillsSlots.fill.Goals as goal

pub returns-clause-put : goal.returns-clause-put
returns-clause-put g c = let n = c.args.self.now.count in
    items_are_pieces (counted 0 n) n c.args.tables.now.slots _ (sym (length-counted 0 n)) c.fill_counted.ensures.put
