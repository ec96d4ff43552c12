-- The lines of steps: the names, the numbers behind them, and which text says which step.
use Rattle.std.specs.Prelude.{◌≡◌, ℕ, List, ◌∷◌, ◌++◌, codes, Option, Some, None, MatchOption, [], ◌⊎◌}
use Rattle.std.specs.Str.Parse.{digits_value}
use Rattle.spindle_parts.specs.declared.steps.Step.{Step}
use Rattle.spindle_parts.specs.declared.steps.Step.TheVariants.{Join, Publish, PublishTry, Claim, Rest, Finish, Stop, See, Arrive, Leave, Exit, Clear, End}
use Rattle.spindle_commands.specs.Numbers.{IsNumber}

-- the name that stands first
abbrev pub name_of : Step → List ℕ
name_of (Join p) = codes "join"
name_of (Publish p n) = codes "publish"
name_of (PublishTry p n) = codes "publish-try"
name_of (Claim p t) = codes "claim"
name_of (Rest p) = codes "rest"
name_of (Finish p) = codes "finish"
name_of (Stop p) = codes "stop"
name_of (See p) = codes "see"
name_of (Arrive p) = codes "arrive"
name_of (Leave p) = codes "leave"
name_of (Exit p) = codes "exit"
name_of (Clear p) = codes "clear"
name_of (End p) = codes "end"

-- the party whose step it is
abbrev pub party_of : Step → ℕ
party_of (Join p) = p
party_of (Publish p n) = p
party_of (PublishTry p n) = p
party_of (Claim p t) = p
party_of (Rest p) = p
party_of (Finish p) = p
party_of (Stop p) = p
party_of (See p) = p
party_of (Arrive p) = p
party_of (Leave p) = p
party_of (Exit p) = p
party_of (Clear p) = p
party_of (End p) = p

-- the number behind the party, where the step has one
abbrev pub operand_of : Step → Option ℕ
operand_of (Join p) = None
operand_of (Publish p n) = Some n
operand_of (PublishTry p n) = Some n
operand_of (Claim p t) = Some t
operand_of (Rest p) = None
operand_of (Finish p) = None
operand_of (Stop p) = None
operand_of (See p) = None
operand_of (Arrive p) = None
operand_of (Leave p) = None
operand_of (Exit p) = None
operand_of (Clear p) = None
operand_of (End p) = None

-- the digits write the number
abbrev pub Writes : List ℕ → ℕ → Type 0
Writes digits n = IsNumber digits × (digits_value 10 digits ≡ n)

-- the text is the step's name and its numbers, with one space (32) before each number
abbrev pub Says : List ℕ → Step → Type 0
Says text step = MatchOption (operand_of step)
    ((party : List ℕ) × (text ≡ name_of step ++ 32 ∷ party) × Writes party (party_of step))
    (λ n. (party operand : List ℕ) × (text ≡ name_of step ++ 32 ∷ (party ++ 32 ∷ operand))
    × Writes party (party_of step) × Writes operand n)

-- the line is such a text, by itself or with its newline (10)
abbrev pub IsLineOf : List ℕ → Step → Type 0
IsLineOf line step = Says line step ⊎ ((text : List ℕ) × (line ≡ text ++ 10 ∷ []) × Says text step)
