-- The words of a round table by their names: where each stands, and what the fields of a range say.
-- The bits and fields of the barrier word are those of the model's.
use Rattle.std.specs.Prelude.{ℕ, ◌+◌, ◌-◌, ◌*◌, ◌/◌, ◌%◌}
pub use Rattle.spindle_parts.specs.Words.{field_size, one_member, one_party, sense_bit}
pub use Rattle.spindle_parts.specs.Words.{count_of, most_of, sense_of, most_parties, most_jobs}

-- Where each word stands.

-- the barrier word
abbrev pub barrier_at : ℕ
barrier_at = 0

-- the number of jobs published
abbrev pub published_at : ℕ
published_at = 1

-- how many jobs of the round have finished
abbrev pub finished_at : ℕ
finished_at = 16

-- whether the round was stopped
abbrev pub stopped_at : ℕ
stopped_at = 32

-- the remainder
abbrev pub remainder_at : ℕ
remainder_at = 48

-- the range of the thread i
abbrev pub range_at : ℕ → ℕ
range_at i = 64 + 16 * i

-- the j-th word that `fill` stores: finished, stopped, the remainder, and then the ranges
abbrev pub filled_at : ℕ → ℕ
filled_at j = 16 + 16 * j

-- how many words a table of t threads has
abbrev pub words_of : ℕ → ℕ
words_of t = 64 + 32 * t

-- one in the high half of a word: where a range's end starts,
-- and the bit of a published word whose round may stop
abbrev pub high_half : ℕ
high_half = 4294967296

-- The fields of a range.

-- where a range starts
abbrev pub start_of : ℕ → ℕ
start_of range = range % high_half

-- where it ends, the end not included
abbrev pub end_of : ℕ → ℕ
end_of range = range / high_half

-- how many numbers it holds
abbrev pub length_of : ℕ → ℕ
length_of range = end_of range - start_of range

-- the word of a range
abbrev pub range_word : ℕ → ℕ → ℕ
range_word from to = from + high_half * to
