-- One spare more has a helper's seats.
use Rattle.std.proofs.Common.{rules, ◌∷◌, []}
use Rattle.std.proofs.lemmas.List.Elements.{All-append}
use Rattle.spindle_rounds.specs.SpareSeats.{AreSpareSeatsAt}
use Rattle.spindle_rounds.proofs.SpareSeats.{all_of_one}
use Rattle.spindle_rounds.proofs.threads.tables.Tables.spare_seats.Goals as goal

pub loop-preserved : goal.loop-preserved
loop-preserved g c = let t = c.args.self.now in let i = c.loop.invariant in let b = c.new.result in record {
  seats = c.new.ensures.seats;
  spare_seats = rw c.push_reserved.ensures.items (All-append (AreSpareSeatsAt t) c.loop.spare_seats.items (b ∷ []) i.spare_seats
      (all_of_one (AreSpareSeatsAt t) b c.new.ensures.spare));
  len = search rules;
  room = search rules;
}
