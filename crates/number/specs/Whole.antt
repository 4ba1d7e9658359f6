-- The whole number that a value of 17 bytes holds, the value of a number, and the bound on ends.
use Rattle.std.specs.Prelude.{ℕ, ◌+◌, ◌*◌, ◌/◌, ◌%◌, ◌^◌}
use Rattle.number.specs.declared.wide.Wide.{Wide}

-- its first byte, the 8 bytes after that and the last 8
unfoldable pub val : Wide → ℕ
val w = (w.top * 2 ^ 64 + w.hi) * 2 ^ 64 + w.lo

-- the value of 17 bytes that holds a number below 2^136
unfoldable pub wide : ℕ → Wide
wide v = record { top = v / 2 ^ 64 / 2 ^ 64; hi = v / 2 ^ 64 % 2 ^ 64; lo = v % 2 ^ 64 }

-- In bounds: both ends below 2^24.
abbrev pub bound : ℕ
bound = 2 ^ 24
