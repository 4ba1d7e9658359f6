-- Numbers in lower-case hex, as ASCII bytes.
use Rattle.std.specs.Prelude.{ℕ, ◌+◌, ◌-◌, Bool, ◌&&◌, ◌||◌, List, map, leb, ltb}
use Rattle.number.specs.Digits.{digits, digits_in}
use Rattle.number.specs.Tests.{pick}

-- the codes of the first and the last character of `0` to `9` and of `a` to `f`
abbrev pub code_0 : ℕ
code_0 = 48

abbrev pub code_9 : ℕ
code_9 = 57

abbrev pub code_a : ℕ
code_a = 97

abbrev pub code_f : ℕ
code_f = 102

-- the code of a digit from 0 to 15
abbrev pub digit_code : ℕ → ℕ
digit_code d = pick (ltb d 10) (code_0 + d) (code_a + (d - 10))

-- whether a character is a lower-case hex digit
unfoldable pub is_digit : ℕ → Bool
is_digit c = (leb code_0 c && leb c code_9) || (leb code_a c && leb c code_f)

-- what a digit counts
unfoldable pub digit_of : ℕ → ℕ
digit_of c = pick (leb c code_9) (c - code_0) (c - code_a + 10)

-- a number without leading zero, zero as `0`
unfoldable pub hex : ℕ → List ℕ
hex n = map digit_code (digits 16 n)

-- a number in exactly w digits
unfoldable pub hex_in : (w n : ℕ) → List ℕ
hex_in w n = map digit_code (digits_in 16 w n)
