-- Divide and conquer.
use Rattle.std.specs.Prelude.{◌≡◌, Option, Some, None}
use Rattle.spindle.specs.declared.kernels.Split.{Split}
use Rattle.spindle.specs.declared.kernels.Split.TheVariants.{Whole as Small, Parts as Pair}
use Rattle.spindle.specs.declared.kernels.dividing.Branch.{Branch}
use Rattle.spindle.specs.declared.kernels.dividing.Branch.TheVariants.{Whole, Parts, Answers, Answered, Nothing}

-- a split is the problem itself, or two that it may be split into
abbrev pub IsSplit : {P : Type 0} → (splits : P → P → P → Type 0) → P → Split P → Type 0
IsSplit splits problem (Small same) = same ≡ problem
IsSplit splits problem (Pair first second) = splits problem first second

-- this solves whatever was split into two that these solve
abbrev pub IsJoined : {P A : Type 0} → (solves : P → A → Type 0) → (splits : P → P → P → Type 0) → (first second answer : A) → Type 0
IsJoined {P} solves splits first second answer =
    (problem one two : P) → splits problem one two → solves one first → solves two second → solves problem answer

-- what may answer a branch: with these parts, what joins answers that solve them; nothing, where there is no problem
abbrev pub Allows : {P A : Type 0} → (solves : P → A → Type 0) → (splits : P → P → P → Type 0) → Branch P A → Option A → Type 0
Allows solves splits (Whole problem) (Some answer) = solves problem answer
Allows {A = A} solves splits (Parts first second) (Some answer) =
    (one : A) × (two : A) × solves first one × solves second two × IsJoined solves splits one two answer
Allows solves splits (Answers first second) (Some answer) = IsJoined solves splits first second answer
Allows solves splits (Answered given) (Some answer) = answer ≡ given
Allows solves splits Nothing (Some answer) = ⊥
Allows solves splits Nothing None = Unit {0}
Allows solves splits _ None = ⊥

-- what may answer what became of the branch may answer the branch
abbrev pub LeadsTo : {P A : Type 0} → (solves : P → A → Type 0) → (splits : P → P → P → Type 0) → (old new : Branch P A) → Type 0
LeadsTo {A = A} solves splits old new = (answer : Option A) → Allows solves splits new answer → Allows solves splits old answer

-- the first part of a branch that was split; any other stays as it is
abbrev pub first_of : {P A : Type 0} → Branch P A → Branch P A
first_of (Parts first second) = Whole first
first_of other = other

-- the second part of a branch that was split; any other has none
abbrev pub second_of : {P A : Type 0} → Branch P A → Branch P A
second_of (Parts first second) = Whole second
second_of other = Nothing

-- what a branch becomes by what answers both of its parts
abbrev pub joined_at : {P A : Type 0} → Option A × Option A → Branch P A
joined_at (Some first, Some second) = Answers first second
joined_at (Some answer, None) = Answered answer
joined_at (None, _) = Nothing
