-- The barrier word of a state.
use Rattle.std.specs.Prelude.{ℕ, ◌+◌, ◌*◌, ◌%◌}
use Rattle.spindle_parts.specs.Words.{one_member, sense_bit}
use Rattle.spindle_parts.specs.State.{State, inside, members}

-- members that are in (bits 0 to 14),
-- members (16 to 30) and the lowest bit of the round number (31)
abbrev pub word : State → ℕ
word s = inside s.parties + one_member * members s.parties + sense_bit * (s.round % 2)
