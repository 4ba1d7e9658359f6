-- Little-endian numbers.
use Rattle.std.specs.Prelude.{ℕ, zero, suc, ◌+◌, ◌*◌, ◌/◌, ◌%◌, List, [], ◌∷◌, get_or}

-- the last w bytes of v, the least significant first
unfoldable pub le : ℕ → ℕ → List ℕ
le zero v = []
le (suc w) v = v % 256 ∷ le w (v / 256)

-- the number that stands in the w bytes of l from place p on, the first byte the least significant
unfoldable pub low_num : List ℕ → ℕ → ℕ → ℕ
low_num l p zero = 0
low_num l p (suc w) = low_num l (suc p) w * 256 + get_or l p 0
