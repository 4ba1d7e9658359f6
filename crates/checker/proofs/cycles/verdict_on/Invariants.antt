-- `checker::cycles::verdict_on`: before row i the rows are empty ones and whole cycles (`Walked`). The rows that are left fall.
use Prim.Native.Nat.{◌-◌}
use Rattle.model.specs.Columns.{row_at}
use Rattle.count.specs.Counts.{plain_counts}
use Rattle.checker.proofs.CycleLaws.{Walked}
use Rattle.checker.proofs.cycles.verdict_on.Given as goal

abbrev pub invariant-loop-i : goal.invariant-loop-i
invariant-loop-i l = Walked (row_at l.rows.bytes.now) l.rows.count l.recent (plain_counts l.c) l.i

abbrev pub decreases-loop-i : goal.decreases-loop-i
decreases-loop-i l = l.rows.count - l.i
