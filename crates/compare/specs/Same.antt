-- Rows whose cells are the same, and a cycle that stands in rows.
use Rattle.std.specs.Prelude.{ℕ, zero, suc, ◌+◌, Bool, true, ◌&&◌, List}
use Rattle.model.specs.Columns.{Cells, Column, columns, cells_in}
use Rattle.model.specs.Constraints.{equal}
use Rattle.model.specs.Cycles.{Claim}
use Rattle.model.specs.State.{State}
use Rattle.model.specs.Trace.{last_of, row_of}

-- two rows have the same cells in these columns
unfoldable pub same_in : List Column → Cells → Cells → Bool
same_in cs x y = equal (cells_in cs x) (cells_in cs y)

-- every cell is the same
abbrev pub same_cells : Cells → Cells → Bool
same_cells x y = same_in columns x y

-- the n rows from row i on are f 0 .. f (n - 1)
unfoldable pub rows_stand : (ℕ → Cells) → (i : ℕ) → (ℕ → Cells) → (n : ℕ) → Bool
rows_stand r i f zero = true
rows_stand r i f (suc n) = rows_stand r i f n && same_cells (r (i + n)) (f n)

-- the rows from row i on are the cycle of the claim at this stamp and state
unfoldable pub cycle_stands : (ℕ → Cells) → (i stamp : ℕ) → State → Claim → Bool
cycle_stands r i stamp s c = rows_stand r i (row_of stamp s c) (suc (last_of c))
