-- The share is back at the first attempt that finds the range empty and unchanged.
use Rattle.std.proofs.Common.{arith, rules, ◌∙◌, refl}
use Rattle.spindle_rounds.specs.declared.round.stopping.PutBack.TheVariants as back
use Rattle.spindle_rounds.proofs.RoundClients.{share_put}
use Rattle.spindle_rounds.proofs.PartyWork.{went_first, went_more, put_hands}
use Rattle.spindle_rounds.proofs.round.claimer.Claimer.put_back.Goals as goal

pub loop-init : goal.loop-init
loop-init g c = record {
  went = went_first _ _ c.args.seat.now c.requires.at;
  may = c.requires.free;
  own = c.requires.share;
  stops = refl;
  hands = refl;
  turn = (let placed = c.args.self.now.placed in omega arith);
}

pub returns-in-Put : goal.returns-in-Put
returns-in-Put g c = let i = c.loop.invariant in let e = c.in-Put.ensures.step in
    let a = share_put c.loop.seat.me c.put_back.new.seat.me _ back.Put c.loop.share c.put_back.new.share i.may i.own e in record {
      went = went_more _ _ _ c.loop.seat c.put_back.new.seat i.went c.put_back.ensures.seat a.0 (λ _. a.1);
      idle = (a.2.1, (let x = a.3.0 in let y = a.3.1 in let same = a.4 refl in omega arith));
      seen = a.2.2;
      stops = a.1.1 ∙ i.stops;
      hands = put_hands _ back.Put c.loop.share c.put_back.new.share c.loop.seat.me c.put_back.new.seat.me e ∙ i.hands;
    }

pub loop-preserved : goal.loop-preserved
loop-preserved g c = let i = c.loop.invariant in let a =
    share_put c.loop.seat.me c.put_back.new.seat.me _ c.put_back.result c.loop.share c.put_back.new.share i.may i.own c.put_back.ensures.step in record {
      went = went_more _ _ _ c.loop.seat c.put_back.new.seat i.went c.put_back.ensures.seat a.0 (λ _. a.1);
      may = a.2;
      own = a.3;
      stops = a.1.1 ∙ i.stops;
      hands = put_hands _ c.put_back.result _ _ c.loop.seat.me c.put_back.new.seat.me c.put_back.ensures.step ∙ i.hands;
      turn = search rules;
    }
