-- Each kind of step adds to the run what its name says.
use Rattle.std.proofs.Common.{refl}
use Rattle.spindle_rounds.specs.RoundSlots.{Lawful}
use Rattle.spindle_rounds.proofs.RoundOpening.{opens, splits}
use Rattle.spindle_rounds.proofs.KeptLoads.{loads, learns, searches, remainder_reads, recalls}
use Rattle.spindle_rounds.proofs.KeptLeftovers.{finds, remainder_finds}
use Rattle.spindle_rounds.proofs.KeptBarrier.{joins, arrives, looks, closer_reads}
use Rattle.spindle_rounds.proofs.KeptFill.{fills, publishes, publishes_try}
use Rattle.spindle_rounds.proofs.KeptSlots.{takes_out, gives_back}
use Rattle.spindle_rounds.proofs.KeptClaims.{claims}
use Rattle.spindle_rounds.proofs.KeptSteals.{steals, remainder_claims}
use Rattle.spindle_rounds.proofs.KeptShares.{shares}
use Rattle.spindle_rounds.proofs.KeptFinish.{finishes}
use Rattle.spindle_rounds.proofs.KeptStops.{halts, sees, puts}
use Rattle.spindle_rounds.proofs.KeptLeaving.{leaves_to}
use Rattle.spindle_rounds.proofs.KeptEnding.{exits_to, clears_round, ends_round}
use Rattle.spindle_rounds.proofs.round_table.runs.every_step.Goals as goal

pub returns : goal.returns
returns g c = let D = g.D.SlotContents.discipline in let law : Lawful D = g.met.D.SlotContents.lawful in (
  opens D law,
  λ t slots id me. record {
    fill = λ j x low l. fills D law t slots id me l.0.0 j x low l.0.1 l.1;
    publish = λ n some low high l. publishes D law t slots id me l.0 n some l.1 l.2 l.3 low high l.4;
    publish_try = λ n some low high l. publishes_try D law t slots id me l.0 n some l.1 l.2 l.3 low high l.4;
    take_slots = λ may. takes_out D law t slots id me may;
    give_slots = λ may. gives_back D law t slots id me may;
    claim_own = λ i range low small left may. claims D law t slots id me i range low may small left;
    steal = λ i range low small left may. steals D law t slots id me i range _ low may small left refl;
    claim_remainder = λ rest some may. remainder_claims D law t slots id me rest may some;
    begin_share = λ i x high some may. shares D law t slots id me i x high may some;
    finish = λ k may give. finishes D law t slots id me k may give;
    stop = λ k may. halts D law t slots id me k may;
    see = λ may. sees D law t slots id me may;
    put_back = λ i old to low vacant start_is end_is tidy may. puts D law t slots id me i old to low may vacant start_is end_is tidy;
    arrive = λ f done. arrives D law t slots id me f.0 f.1 f.2 f.3 done;
    exit = λ old may. exits_to D law t slots id me old _ may refl;
    join = λ old away fine room. joins D law t slots id me old away fine room;
    look = λ w. looks D law t slots id me w.0 w.1 w.2;
    leave = λ old sense has other some may. leaves_to D law t slots id me old _ sense may has other some refl;
    read_to_end = λ w. closer_reads D law t slots id me w.0 w.1 w.2 w.3 w.4;
    clear = λ w. clears_round D law t slots id me w.0 w.1 w.2 w.3 w.4;
    end = λ q n member closes. ends_round D law t slots id me q n member closes;
    load = loads D law t slots id me;
    learn = learns D law t slots id me;
    search = λ i low. searches D law t slots id me i low;
    read_rest = remainder_reads D law t slots id me;
    find = λ i low. finds D law t slots id me i low;
    find_rest = remainder_finds D law t slots id me;
    recall = recalls D law t slots id me;
    split = splits D law t id me.0;
  },
)
