-- All items come back to where they were.
use Rattle.spindle_locks.proofs.InPlace.{all_fit}
use Rattle.spindle_locks.proofs.running.in_place.AnyPlaysInPlacePlaceLeaderState.play_alone.Goals as goal

pub unload-requires : goal.unload-requires
unload-requires g c = let moved = c.load-chunk.ensures in let old = c.args.items.now in
    record { room = all_fit g.J.Updates.updated old.items _ _ _ _ _ _ c.update_chunk-updated.ensures.updated moved.taken old.ok moved.len moved.block }
