-- `compare::from_comp_is` meets its contract: cell by cell.
use mathlib.Core.Bool.{and_assoc, and-true}
use Rattle.number.specs.Cells.{decode}
use Rattle.model.specs.Columns.{row_at}
use Rattle.model.specs.Constraints.{equal}
use Rattle.compare.specs.Same.{same_in}
use Rattle.compare.proofs.from_comp_is.Goals as goal

pub returns : goal.returns
unfolding same_in equal decode row_at
returns c =
    rw (← c.bytes-bytes.ensures)
    (simp (
      c.cells_are.ensures,
      c.cells_are-2.ensures,
      c.cells_are-3.ensures,
      c.cells_are-4.ensures,
      c.cells_are-5.ensures,
      c.new.ensures,
      c.new-2.ensures,
      c.new-3.ensures,
      c.new-4.ensures,
      c.new-5.ensures,
      c.new-6.ensures,
      and_assoc,
      and-true,
    ))
