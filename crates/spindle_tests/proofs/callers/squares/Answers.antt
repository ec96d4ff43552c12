-- The relation is a function, so outputs that answer the numbers are its values.
use Rattle.std.proofs.Common.{◌≡◌, ◌*◌, rules, ℕ, Vec, Global}
use Rattle.std.specs.List.{AllZip}
use Rattle.std.proofs.lemmas.Result.{IfOk-weaker}
use Rattle.std.proofs.lemmas.Slice.Zip.{AllZip-map}
use Rattle.spindle_tests.proofs.callers.squares.Goals as goal

pub returns : goal.returns
returns g c =
    IfOk-weaker _ (λ (squares : Vec ℕ Global). AllZip (λ x y. y ≡ x * x) c.args.numbers.items squares.items) _
    (λ squares answered. AllZip-map (λ x. x * x) c.args.numbers.items squares.items answered) (search rules)
