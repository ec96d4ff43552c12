-- The words of the program: the range of each number.
use Rattle.std.specs.Prelude.{◌<◌, ◌≤◌, ◌^◌}
use Rattle.spindle_commands.specs.declared.squares.RoundPlan.{RoundPlan}
use Rattle.spindle_commands.specs.declared.words.Command.{Command}
use Rattle.spindle_commands.specs.declared.words.Command.TheVariants.{Cut, Squares, Slots, Faults, Grid, Steps}

-- each number of a round lies in its range
abbrev pub IsRoundPlan : RoundPlan → Type 0
IsRoundPlan plan = (plan.count ≤ 100000) × (0 < plan.threads) × (plan.threads ≤ 64)
    × (0 < plan.jobs) × (plan.jobs ≤ 100000)

-- each number of the command lies in its range
abbrev pub IsInRange : Command → Type 0
IsInRange (Cut len jobs) = (len ≤ 1000000) × (jobs < 2 ^ 32) × (0 < len → 0 < jobs)
IsInRange (Squares plan) = IsRoundPlan plan
IsInRange (Slots plan slots) = IsRoundPlan plan × (0 < slots) × (slots ≤ 100000)
IsInRange (Faults plan bad) = IsRoundPlan plan × (bad < 2 ^ 32)
IsInRange (Grid plan) =
    (0 < plan.rows) × (plan.rows ≤ 512) × (0 < plan.columns) × (plan.columns ≤ 512)
    × (0 < plan.threads) × (plan.threads ≤ 64) × (0 < plan.jobs) × (plan.jobs ≤ 4096)
IsInRange Steps = Unit {0}
