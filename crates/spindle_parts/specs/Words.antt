-- The bits of the barrier word and its fields by their names,
-- and how many parties and jobs there may be.
use Rattle.std.specs.Prelude.{ℕ, ◌/◌, ◌%◌}

-- The bits of the barrier word.

-- one past the 15 bits that count parties
abbrev pub field_size : ℕ
field_size = 32768

-- a member more
abbrev pub one_member : ℕ
one_member = 65536

-- a party more: a member that hasn't arrived
abbrev pub one_party : ℕ
one_party = 65537

-- the bit of the sense
abbrev pub sense_bit : ℕ
sense_bit = 2147483648

-- Its fields.

-- how many members haven't arrived
abbrev pub count_of : ℕ → ℕ
count_of n = n % field_size

-- how many members there are
abbrev pub most_of : ℕ → ℕ
most_of n = n / one_member % field_size

-- its sense
abbrev pub sense_of : ℕ → ℕ
sense_of n = n / sense_bit

-- What bounds a round.

-- the most parties of a barrier
abbrev pub most_parties : ℕ
most_parties = 32767

-- the most jobs of a round
abbrev pub most_jobs : ℕ
most_jobs = 4294967295
