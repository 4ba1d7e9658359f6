-- Digits at base 256 that go off the front of a number and sum up again.
use Rattle.std.specs.Prelude.{ℕ, suc, ◌+◌, ◌*◌, ◌^◌, ◌<◌, ◌≡◌}

-- the first i of the m + 1 digits of d have gone off: they spell q, and what is left of d stands at the front of r
pub record Shifted (m d i q r : ℕ) : Type 0 where
  pub parts : 256 ^ i * d ≡ q * 256 ^ suc m + r
  pub left : r < 256 ^ suc m
  pub fits : d < 256 ^ suc m
