-- When the search for a context's last cycle has stopped at its limit.
use Rattle.std.specs.Prelude.{ℕ, Bool, false, ltb, Option, None, Some}

-- nothing was found, and not all cycles were looked at
abbrev pub stopped_short : Option ℕ → (count cycles : ℕ) → Bool
stopped_short (Some i) count cycles = false
stopped_short None count cycles = ltb count cycles
