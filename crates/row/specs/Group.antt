-- Cells that stand side by side, as one number.
use Rattle.std.specs.Prelude.{ℕ, ◌+◌, ◌*◌, ◌^◌, Bool, ◌||◌, eqb, List, [], ◌∷◌}

-- the number n, and behind it the cells of these widths and values; a value that is missing is 0, one too many is left out
unfoldable pub joined : List ℕ → List ℕ → ℕ → ℕ
joined [] vs n = n
joined (w ∷ ws) [] n = joined ws [] (n * 256 ^ w)
joined (w ∷ ws) (v ∷ vs) n = joined ws vs (n * 256 ^ w + v)

-- a number of w bytes is loaded and stored by one machine instruction
abbrev pub at_once : ℕ → Bool
at_once w = eqb w 2 || (eqb w 4 || eqb w 8)
