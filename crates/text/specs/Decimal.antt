-- A number in decimal, as ASCII bytes.
use Rattle.std.specs.Prelude.{ℕ, ◌+◌, ◌-◌, ◌≤◌, ◌<◌, List, map, length, get_or}
use Rattle.number.specs.Digits.{digits}
use Rattle.form.specs.Hex.{code_0}

-- the code of a digit from 0 to 9
abbrev pub digit : ℕ → ℕ
digit d = code_0 + d

-- what the code of a digit counts
abbrev pub digit_of : ℕ → ℕ
digit_of c = c - digit 0

-- n in decimal, without a zero in front, 0 as `0`
unfoldable pub decimal : ℕ → List ℕ
decimal n = map digit (digits 10 n)

-- the most digits of a number below 2^64
abbrev pub max_digits : ℕ
max_digits = 20

-- each byte is the code of a digit
abbrev pub AllDigits : List ℕ → Type 0
AllDigits l = (i : ℕ) → i < length l → (digit 0 ≤ get_or l i 0) × (get_or l i 0 ≤ digit 9)
