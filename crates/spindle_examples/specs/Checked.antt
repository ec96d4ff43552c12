-- What comes of a batch of orders that one failure stops.
use Rattle.std.specs.Prelude.{◌≡◌, ℕ, ◌^◌, ◌≤◌, List, map}
use Rattle.std.specs.List.{All, Any}
use Rattle.spindle.specs.PieceRuns.{piece_at}
use Rattle.spindle.specs.Reports.{IsAnswered}
use Rattle.spindle_examples.specs.declared.batch.Order.{Order}
use Rattle.spindle_examples.specs.declared.checked.Checked.{Checked}
use Rattle.spindle_examples.specs.declared.checked.Checked.TheVariants.{Amounts, Stopped}
use Rattle.spindle_examples.specs.Batch.{due, IsBillOf}

-- one of these orders comes to more than 32 bits can say
abbrev pub HasTooLarge : List Order → Type 0
HasTooLarge orders = Any (λ order. 2 ^ 32 ≤ due order) orders

-- what comes of orders in so many pieces: what each order comes to, or a piece with one that comes to too much, with what the pieces
-- that ran answered; it is the first of these that has such an order
abbrev pub IsChecked : List Order → (pieces : ℕ) → Checked → Type 0
IsChecked orders pieces (Amounts amounts) = amounts.items ≡ map due orders
IsChecked orders pieces (Stopped number ran) = HasTooLarge (piece_at orders pieces number)
    × All (IsAnswered IsBillOf orders pieces) ran.items
    × All (λ piece. HasTooLarge (piece_at orders pieces piece.0) → number ≤ piece.0) ran.items
