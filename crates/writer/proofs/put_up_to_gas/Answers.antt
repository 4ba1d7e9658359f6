-- `writer::put_up_to_gas` meets its contract: its stores one after the other.
use mathlib.Core.List.{[], ◌∷◌}
use Rattle.writer.proofs.GroupLaws.{cells_stored}
use Rattle.writer.proofs.put_up_to_gas.Goals as goal

pub returns : goal.returns
returns c =
    let a = c.args in
    rw (
      c.put_u32.ensures,
      c.put_cells-4.ensures,
      cells_stored (4 ∷ 4 ∷ []) _ _ a.p 72,
      c.put_u24-3.ensures,
      c.put_u24-2.ensures,
      c.put_u24.ensures,
      c.put_wide-3.ensures,
      c.put_cells-3.ensures,
      cells_stored (1 ∷ 1 ∷ []) _ _ a.p 44,
      c.put_wide-2.ensures,
      c.put_wide.ensures,
      c.put_cells-2.ensures,
      cells_stored (1 ∷ 1 ∷ []) _ _ a.p 8,
      c.put_cells.ensures,
      cells_stored (4 ∷ 4 ∷ []) _ _ a.p 0,
    )
