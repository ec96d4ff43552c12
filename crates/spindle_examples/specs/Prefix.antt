-- Prefix sums: each place has the sum of all values up to it, that place counted.
use Rattle.std.specs.Prelude.{ℕ, ◌+◌, List, [], ◌∷◌, Option, Some, None, length, map, sum, take}
use Rattle.spindle.specs.Pieces.{joined, counted}
use Rattle.spindle_examples.specs.Wrapping.{wrapped}
use Rattle.spindle_examples.specs.declared.sums.Asked.{Asked}

-- the sum from a start up to each place
abbrev pub running : (start : ℕ) → List ℕ → List ℕ
running start values = map (λ at. wrapped (start + sum (take (at + 1) values))) (counted 0 (length values))

-- the sum up to each place
abbrev pub prefix_sums : List ℕ → List ℕ
prefix_sums values = running 0 values

-- what a run is asked for: the sums from a start, or with none its total alone
abbrev pub sums_of : Option ℕ → List ℕ → List ℕ
sums_of None run = wrapped (sum run) ∷ []
sums_of (Some start) run = running start run

-- a run with a start, or with none
abbrev pub asked_of : Option ℕ → List ℕ → Asked
asked_of start run = record { start = start; run = run }

-- what answers it
abbrev pub answer_to : Asked → List ℕ
answer_to asked = sums_of asked.start asked.run

-- what a round answers: of each run what it is asked for, one behind the other
abbrev pub answers_to : List Asked → List ℕ
answers_to asked = joined (map answer_to asked)

-- each run with its start, which for the first is this, and for each other the sum of the runs before it
abbrev pub continued : (start : ℕ) → List (List ℕ) → List Asked
continued start [] = []
continued start (run ∷ runs) = asked_of (Some (wrapped start)) run ∷ continued (start + sum run) runs
