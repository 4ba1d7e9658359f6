-- The model's row by the places of its cells: each cell stands where those before it end.
use Rattle.std.specs.Prelude.{ℕ, ◌+◌, List, [], ◌∷◌}
use Rattle.number.specs.Num.{num}
use Rattle.model.specs.Columns.{Cells, widths, of_list}
use Rattle.row.specs.Plain.{HeadOf, BodyOf, TailOf}
use Rattle.row.specs.declared.cells.Body.{Body}
use Rattle.row.specs.declared.cells.Head.{Head}
use Rattle.row.specs.declared.cells.Tail.{Tail}

-- the values of cells with these widths, the first of which stands o bytes after p
abbrev pub cells_from : List ℕ → List ℕ → (p o : ℕ) → List ℕ
cells_from [] l p o = []
cells_from (w ∷ ws) l p o = num l (p + o) w ∷ cells_from ws l p (o + w)

-- the row whose first byte is at p
abbrev pub from : List ℕ → ℕ → Cells
from l p = of_list (cells_from widths l p 0)

-- x is that part of the row whose first byte is at p
abbrev pub HeadAt : List ℕ → ℕ → Head → Type 0
HeadAt l p x = HeadOf (from l p) x

abbrev pub BodyAt : List ℕ → ℕ → Body → Type 0
BodyAt l p x = BodyOf (from l p) x

abbrev pub TailAt : List ℕ → ℕ → Tail → Type 0
TailAt l p x = TailOf (from l p) x
