-- The configuration that the machine's registers show, and what is kept of them between two steps.
use Rattle.std.specs.Prelude.{◌≡◌, ℕ, ◌+◌, ◌<◌, ◌≤◌, Bool, true, false, ◌==◌, List, sum, Option}
use Rattle.std.specs.Prelude.{Some, None, vec_capacity}
use Rattle.std.specs.List.{list_any}
use Rattle.std.specs.Ordering.{nat_cmp}
use Rattle.std.specs.BTreeMap.{get}
use Rattle.spindle_parts.specs.Words.{most_parties}
use Rattle.spindle_parts.specs.State.{Status, Out, In, Arrived}
use Rattle.spindle_parts.specs.Machine.{Configuration}
use Rattle.spindle_parts.specs.EverySchedule.{Call, IsSchedule, machine}
use Rattle.spindle_parts.specs.Entries.{sense_of, running_of, IsMarked}
use Rattle.spindle_parts.specs.declared.steps.registers.Registers.{Registers}

-- how a member with that sense stands, by the word's sense: in where they agree
abbrev pub stands : Bool → Option Bool → Status
stands word None = Out
stands true (Some true) = In
stands true (Some false) = Arrived
stands false (Some true) = Arrived
stands false (Some false) = In

-- the configuration that the registers show
abbrev pub shown : Registers → Configuration
shown r = record {
  seat = λ p. record {
    status = stands r.sense (sense_of (get nat_cmp r.entries p));
    running = running_of (get nat_cmp r.entries p);
    seen = list_any (λ q. p == q) r.saw.items;
  };
  inside = r.inside;
  members = r.members;
  sense = r.sense;
  closer = r.closer;
  published = r.published;
  stoppable = r.stoppable;
  stopped = r.stopped;
  finished = r.finished;
  counters = r.counters.items;
  remainder = r.remainder;
}

-- some schedule leads to the configuration
pub record IsReached (m : Configuration) : Type 0 where
  pub threads : ℕ
  pub calls : List Call
  pub some : 0 < threads
  pub few : threads ≤ most_parties
  pub schedule : IsSchedule calls
  pub leads : m ≡ machine threads calls

-- the registers between two steps
pub record IsTidy (r : Registers) : Type 0 where
  pub marks : IsMarked r.entries r.saw.items (vec_capacity r.saw)
  pub left : r.left ≡ sum r.counters.items + r.remainder
  pub inside : r.inside ≤ r.members
  pub members : r.members ≤ most_parties

-- between two steps: tidy, where some schedule leads
pub record IsSteady (r : Registers) : Type 0 where
  pub reached : IsReached (shown r)
  pub tidy : IsTidy r
