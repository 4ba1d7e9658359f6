-- The row is read only where it is there; beyond the last whole row no cycle remains, since every cycle has a row.
use mathlib.Core.Path.{sym}
use native.Mathlib.Nat.{add-zero}
use native.Mathlib.Omega.{arith}
use Rattle.part.proofs.StepLaws.{step_moves, step_stays}
use Rattle.part.proofs.rows_given.Goals as goal

pub returns-then-whole-next : goal.returns-then-whole-next
returns-then-whole-next c = rw add-zero (sym (step_stays _ _ (omega (arith, c.if-whole-next.true))))

pub returns-then-whole-next-2 : goal.returns-then-whole-next-2
returns-then-whole-next-2 c =
    let rows = rw c.of_row.ensures at c.cycle_rows-rows.ensures in
    rw add-zero (sym (step_stays _ _ (omega (arith, c.if-whole-next-2.true, rows))))

pub returns-else-whole-next-2 : goal.returns-else-whole-next-2
returns-else-whole-next-2 c =
    let rows = rw c.of_row.ensures at c.cycle_rows-rows.ensures in
    rw rows (sym (step_moves _ _ (omega (arith, c.if-whole-next-2.false, rows, c.if-whole-next.false))))
