-- `writer::put_from_comp` meets its contract: its stores one after the other; of a cell of three bytes the last three count.
use mathlib.Core.List.{[], ◌∷◌}
use Rattle.writer.proofs.GroupLaws.{cells_stored, three-last}
use Rattle.writer.proofs.put_from_comp.Goals as goal

pub returns : goal.returns
returns c =
    let a = c.args in
    rw (
      c.put_cells-5.ensures,
      cells_stored (1 ∷ 1 ∷ []) _ _ a.p 112,
      c.put_cells-4.ensures,
      cells_stored (1 ∷ 3 ∷ []) _ _ a.p 108,
      c.put_cells-3.ensures,
      cells_stored (1 ∷ 3 ∷ 4 ∷ []) _ _ a.p 100,
      c.put_cells-2.ensures,
      cells_stored (1 ∷ 1 ∷ 3 ∷ 3 ∷ []) _ _ a.p 92,
      c.put_cells.ensures,
      cells_stored (1 ∷ 1 ∷ 3 ∷ 3 ∷ []) _ _ a.p 84,
      three-last a.x.body.dacc c.last_of.ensures,
      three-last a.x.body.endmax c.last_of-2.ensures,
      three-last a.x.tail.eacc c.last_of-3.ensures,
      three-last a.x.tail.q1 c.last_of-4.ensures,
      three-last a.x.tail.q1acc c.last_of-5.ensures,
      three-last a.x.tail.q2acc c.last_of-6.ensures,
    )
