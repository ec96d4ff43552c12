-- Numbers as words and lines write them.
use Rattle.std.specs.Prelude.{ℕ, List, length, ◌<◌, ◌≤◌, ◌^◌}
use Rattle.std.specs.Str.Parse.{IsNumeral, digits_value}

-- one to ten decimal digits, whose value fits 32 bits
abbrev pub IsNumber : List ℕ → Type 0
IsNumber text = IsNumeral 10 text × (length text ≤ 10) × (digits_value 10 text < 2 ^ 32)
