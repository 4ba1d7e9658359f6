-- What a part of a row leaves in a list of bytes, stored cell by cell.
use Rattle.std.specs.Prelude.{ℕ, ◌+◌, List, [], ◌∷◌, take, drop}
use Rattle.std.proofs.lemmas.List.Edits.{sets}
use Rattle.number.specs.Cells.{total}
use Rattle.number.specs.Num.{be}
use Rattle.model.specs.Columns.{Cells, Column, columns, widths}

-- l, once the cells of x in these columns are stored one by one, the first of them o bytes after p
abbrev pub stores_from : List Column → Cells → List ℕ → (p o : ℕ) → List ℕ
stores_from [] x l p o = l
stores_from (c ∷ cs) x l p o = stores_from cs x (sets l (p + o) (be c.width (c.cell x))) p (o + c.width)

-- l, once the cells of x in the n columns from column k on are stored in the row whose first byte is at p
abbrev pub part_stored : (k n : ℕ) → Cells → List ℕ → ℕ → List ℕ
part_stored k n x l p = stores_from (take n (drop k columns)) x l p (total (take k widths))
