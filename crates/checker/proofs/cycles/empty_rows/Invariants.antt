-- `checker::cycles::empty_rows`: the rows before row i are empty, so that what is left decides.
use Prim.Native.Nat.{◌-◌}
use mathlib.Core.Path.{◌≡◌}
use Rattle.model.specs.Columns.{row_at}
use Rattle.checker.specs.Steps.{empty_from, leading_empty}
use Rattle.checker.proofs.cycles.empty_rows.Given as goal

abbrev pub invariant-loop-i : goal.invariant-loop-i
invariant-loop-i l = empty_from (row_at l.rows.bytes.now) l.i (l.rows.count - l.i) ≡ leading_empty (row_at l.rows.bytes.now) l.rows.count
