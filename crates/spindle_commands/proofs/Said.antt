-- What a text with two numbers says, and a line with its newline.
use Rattle.std.proofs.Common.{◌≡◌, ℕ, List, ◌∷◌, ◌++◌, Option, Some, None, IfSome, [], ap, ◌∙◌, sym, inr}
use Rattle.spindle_parts.specs.declared.steps.Step.{Step}
use Rattle.spindle_commands.specs.StepLines.{name_of, party_of, operand_of, Writes, Says, IsLineOf}

-- a step of the name with both numbers is what the text says
pub said_with : (text name rest party operand : List ℕ) (p n : ℕ) (r : Option Step) → text ≡ name ++ 32 ∷ rest → rest ≡ party ++ 32 ∷ operand → Writes party p
    → Writes operand n → IfSome r (λ step. name ≡ name_of step) → IfSome r (λ step. party_of step ≡ p) → IfSome r (λ step. operand_of step ≡ Some n) → IfSome r
    (Says text)
said_with text name rest party operand p n None e f wp wn a b c = tt
said_with text name rest party operand p n (Some step) e f wp wn a b c =
    rw c (party, operand, e ∙ ap (λ t. name ++ 32 ∷ t) f ∙ ap (λ t. t ++ 32 ∷ (party ++ 32 ∷ operand)) a, rw b wp, wn)

-- what stands before the newline says what the line says
pub said_before_newline : (line text said : List ℕ) (r : Option Step) → text ≡ line → text ≡ said ++ 10 ∷ [] → IfSome r (Says said) → IfSome r (IsLineOf line)
said_before_newline line text said None e f a = tt
said_before_newline line text said (Some step) e f a = inr (said, sym e ∙ f, a)
