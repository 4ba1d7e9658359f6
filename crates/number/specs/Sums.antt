-- Bytes that sum up over the rows 0 .. m of a cycle.
use Rattle.std.specs.Prelude.{ℕ, suc, ◌+◌, ◌*◌, ◌-◌, ◌/◌, ◌%◌, ◌^◌, ◌<◌, ◌≤◌, ◌≡◌}

-- x sums up into y over the rows 0 .. m: y is x at row 0, else 256 times y of the row before, plus x
pub record SumsUp (m : ℕ) (x y : ℕ → ℕ) : Type 0 where
  pub first : y 0 ≡ x 0
  pub next : (i : ℕ) → i < m → y (suc i) ≡ 256 * y i + x (suc i)

-- what stands in a byte column at the rows 0 .. m
abbrev pub ByteRows : ℕ → (ℕ → ℕ) → Type 0
ByteRows m x = (i : ℕ) → i ≤ m → x i < 256

-- of the m + 1 digits of v at base 256: the number that those at places 0 .. i spell, and the one at place i
unfoldable pub prefix_at : ℕ → ℕ → ℕ → ℕ
prefix_at m v i = v / 256 ^ (m - i)

unfoldable pub digit_at : ℕ → ℕ → ℕ → ℕ
digit_at m v i = prefix_at m v i % 256
