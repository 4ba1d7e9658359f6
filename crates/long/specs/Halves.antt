-- The whole number that two halves of 64 bits hold, and the halves of a number.
use Rattle.std.specs.Prelude.{ℕ, ◌+◌, ◌*◌, ◌/◌, ◌%◌, ◌^◌}
use Rattle.long.specs.declared.Long.{Long}

-- its first 64 bits and its last 64
unfoldable pub whole : Long → ℕ
whole x = x.hi * 2 ^ 64 + x.lo

-- the halves of a number below 2^128
unfoldable pub long : ℕ → Long
long v = record { hi = v / 2 ^ 64; lo = v % 2 ^ 64 }
