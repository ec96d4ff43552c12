-- Texts that write numbers.
use Rattle.std.specs.Prelude.{ℕ, Result, String}
use Rattle.std.specs.String.{string_bytes}
use Rattle.std.specs.Global.{Global}
use Rattle.std.specs.Str.Parse.{ParsesUnsigned}

-- what comes of a text that is read as a decimal of 64 bits
abbrev pub IsRead : {E : Type 0} → String Global → Result ℕ E → Type 0
IsRead text number = ParsesUnsigned 64 10 (string_bytes text) number
