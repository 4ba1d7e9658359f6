-- `compare::up_to_gas_is` meets its contract: cell by cell.
use mathlib.Core.Bool.{and_assoc, and-true}
use Rattle.number.specs.Cells.{decode}
use Rattle.model.specs.Columns.{row_at}
use Rattle.model.specs.Constraints.{equal}
use Rattle.compare.specs.Same.{same_in}
use Rattle.compare.proofs.up_to_gas_is.Goals as goal

pub returns : goal.returns
unfolding same_in equal decode row_at
returns c =
    rw (
      ← c.bytes-bytes.ensures,
      c.cells_are.ensures,
      c.cells_are-2.ensures,
      c.eq.ensures,
      c.wide_at.ensures,
      c.eq-2.ensures,
      c.wide_at-2.ensures,
      c.cells_are-3.ensures,
      c.eq-3.ensures,
      c.wide_at-3.ensures,
      c.u24_at.ensures,
      c.u24_at-2.ensures,
      c.u24_at-3.ensures,
      c.cells_are-4.ensures,
      c.u32_at.ensures,
    )
    (simp (and_assoc, and-true))
