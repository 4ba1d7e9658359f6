-- Numbers of given widths, one after the other: the cells of a row.
use Rattle.std.specs.Prelude.{ℕ, ◌+◌, ◌^◌, ◌<◌, List, [], ◌∷◌, ◌++◌}
use Rattle.number.specs.Num.{num, be}

-- how many bytes cells of these widths take
abbrev pub total : List ℕ → ℕ
total [] = 0
total (w ∷ ws) = w + total ws

-- the bytes of cells with these widths and these values; a value that is missing is 0, one too many is left out
unfoldable pub encode : List ℕ → List ℕ → List ℕ
encode [] vs = []
encode (w ∷ ws) [] = be w 0 ++ encode ws []
encode (w ∷ ws) (v ∷ vs) = be w v ++ encode ws vs

-- the values of the cells with these widths that stand in l from place p on
unfoldable pub decode : List ℕ → List ℕ → ℕ → List ℕ
decode [] l p = []
decode (w ∷ ws) l p = num l p w ∷ decode ws l (p + w)

-- there is one value for each width, and each is below 256 to the power of its width
unfoldable pub Fit : List ℕ → List ℕ → Type 0
Fit [] [] = Unit
Fit [] (v ∷ vs) = ⊥
Fit (w ∷ ws) [] = ⊥
Fit (w ∷ ws) (v ∷ vs) = (v < 256 ^ w) × Fit ws vs
