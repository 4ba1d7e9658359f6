-- Big-endian numbers in lists of bytes, of any width.
use Rattle.std.specs.Prelude.{ℕ, zero, suc, ◌+◌, ◌*◌, ◌/◌, ◌%◌, ◌<◌, List, [], ◌∷◌, ◌++◌, length, get_or}

-- the number that stands in the w bytes of l from place p on, the first byte the most significant
unfoldable pub num : List ℕ → ℕ → ℕ → ℕ
num l p zero = 0
num l p (suc w) = num l p w * 256 + get_or l (p + w) 0

-- the last w bytes of v, the most significant first
unfoldable pub be : ℕ → ℕ → List ℕ
be zero v = []
be (suc w) v = be w (v / 256) ++ (v % 256 ∷ [])

-- each element of the list is a byte
abbrev pub AllBytes : List ℕ → Type 0
AllBytes l = (i : ℕ) → i < length l → get_or l i 0 < 256
