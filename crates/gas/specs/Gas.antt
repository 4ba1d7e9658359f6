-- Bytes, EVM words and gas, as document 01 has them, on whole numbers.
use Rattle.std.specs.Prelude.{ℕ, zero, suc, ◌+◌, ◌*◌, ◌-◌, ◌/◌, ◌%◌, ◌≤◌, ◌<◌}

-- the bytes of an EVM word, the gas of a word, and the divisor of the square in the cost
abbrev pub word_bytes : ℕ
word_bytes = 32

abbrev pub word_gas : ℕ
word_gas = 3

abbrev pub square_divisor : ℕ
square_divisor = 512

-- A range of length 0 has end 0 at any offset; otherwise its end is at+len.
unfoldable pub range_end : ℕ → ℕ → ℕ
range_end at zero = 0
range_end at (suc n) = at + suc n

-- Words: a = end/32 rounded up.
unfoldable pub words : ℕ → ℕ
words end = (end + (word_bytes - 1)) / word_bytes

-- Cost: C(a) = 3a + floor(a*a/512).
unfoldable pub cost : ℕ → ℕ
cost a = word_gas * a + a * a / square_divisor

-- a number in three parts, as constraint 22 has them: Q2, the bit e and a last byte
pub record Parts : Type 0 where
  pub q2 : ℕ
  pub e : ℕ
  pub low : ℕ

-- e is a bit, and the last byte is one
pub record InRange (p : Parts) : Type 0 where
  pub bit : p.e ≤ 1
  pub byte : p.low < 256

-- the number that the parts stand for: 512*Q2 + 256*e + the last byte
unfoldable pub joined : Parts → ℕ
joined p = square_divisor * p.q2 + 256 * p.e + p.low

-- the split of a*a
unfoldable pub split : ℕ → Parts
split a = record { q2 = a * a / square_divisor; e = a * a % square_divisor / 256; low = a * a % 256 }
