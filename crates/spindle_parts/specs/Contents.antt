-- What the machine contains, as plain data, and the configuration that it shows.
use Rattle.std.specs.Prelude.{◌≡◌, ℕ, Bool, ◌==◌, List, Option, None}
use Rattle.std.specs.List.{list_any}
use Rattle.std.specs.Map.{lookup}
use Rattle.std.specs.Ordering.{nat_cmp}
use Rattle.std.specs.BTreeMap.{is_at}
use Rattle.spindle_parts.specs.Machine.{Configuration}
use Rattle.spindle_parts.specs.Entries.{sense_of, running_of}
use Rattle.spindle_parts.specs.Registers.{stands}
use Rattle.spindle_parts.specs.declared.steps.Step.{Step}
use Rattle.spindle_parts.specs.declared.steps.Step.TheVariants.{Join}
use Rattle.spindle_parts.specs.declared.steps.registers.Entry.{Entry}
use Rattle.spindle_parts.specs.declared.steps.registers.Registers.{Registers}

-- the parties' entries by party, the parties that saw the stop, and the registers
pub record Contents : Type 0 where
  pub entries : List (ℕ × Entry)
  pub saw : List ℕ
  pub counters : List ℕ
  pub remainder : ℕ
  pub left : ℕ
  pub finished : ℕ
  pub published : Option ℕ
  pub stoppable : Bool
  pub stopped : Bool
  pub inside : ℕ
  pub members : ℕ
  pub sense : Bool
  pub closer : Option ℕ

-- the contents of the registers
abbrev pub contents : Registers → Contents
contents r = record {
  entries = r.entries.entries;
  saw = r.saw.items;
  counters = r.counters.items;
  remainder = r.remainder;
  left = r.left;
  finished = r.finished;
  published = r.published;
  stoppable = r.stoppable;
  stopped = r.stopped;
  inside = r.inside;
  members = r.members;
  sense = r.sense;
  closer = r.closer;
}

-- the entry of the party
abbrev pub entry_of : Contents → ℕ → Option Entry
entry_of c p = lookup (is_at (nat_cmp p)) c.entries

-- the party never came: it has no entry
abbrev pub IsNew : Contents → ℕ → Type 0
IsNew c p = entry_of c p ≡ None

-- the step is the join of a party that never came
abbrev pub IsFirstJoin : Contents → Step → Type 0
IsFirstJoin c (Join p) = IsNew c p
IsFirstJoin c e = ⊥

-- nobody who came is forgotten
abbrev pub Remembers : Contents → Contents → Type 0
Remembers c c' = (p : ℕ) → IsNew c' p → IsNew c p

-- the configuration that the contents show
abbrev pub configuration : Contents → Configuration
configuration c = record {
  seat = λ p. record {
    status = stands c.sense (sense_of (entry_of c p));
    running = running_of (entry_of c p);
    seen = list_any (λ q. p == q) c.saw;
  };
  inside = c.inside;
  members = c.members;
  sense = c.sense;
  closer = c.closer;
  published = c.published;
  stoppable = c.stoppable;
  stopped = c.stopped;
  finished = c.finished;
  counters = c.counters;
  remainder = c.remainder;
}
