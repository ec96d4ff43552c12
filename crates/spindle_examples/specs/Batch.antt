-- Orders and their bills.
use Rattle.std.specs.Prelude.{ℕ, ◌*◌, ◌^◌, ◌<◌, Option}
use Rattle.std.specs.Option.{SomeIff}
use Rattle.spindle_examples.specs.declared.batch.Order.{Order}

-- what an order comes to
abbrev pub due : Order → ℕ
due order = order.count * order.price

-- the bill says what the order comes to, exactly where 32 bits can
abbrev pub IsBillOf : Order → Option ℕ → Type 0
IsBillOf order bill = SomeIff bill (due order < 2 ^ 32) (due order)
