-- A seat's trail: what one atomic step writes into it.
use Rattle.std.specs.Prelude.{ℕ}
use Rattle.spindle_parts.specs.declared.trail.Trace.{Trace}

-- the step at the word i of the kind k, which found one value and left another
abbrev pub trace : {K : Type 0} → ℕ → K → ℕ → ℕ → Trace K
trace i k found left = record { word = i; kind = k; found = found; left = left }
