-- No rows are an empty part; other rows lie in the trace, so their bytes do.
use Prim.Native.Nat.{◌+◌, ◌*◌, ◌≤◌}
use native.Mathlib.Omega.{arith}
use lib.ListN.{length}
use Rattle.model.specs.Columns.{row_bytes}
use Rattle.model.specs.Cycles.{part}
use Rattle.part.proofs.StepLaws.{step_inside, step_part}
use Rattle.part.proofs.part_at.Goals as goal

-- the rows that are given lie in the trace
inside : (c : goal.Else-rows-eq0) → let a = c.args in (a.next + c.rows_given-rows.result) * row_bytes ≤ length a.t.now
inside c =
    let a = c.args in
    omega (arith, step_inside a.t.now a.next, c.rows_given-rows.ensures)

pub returns-then-rows-eq0 : goal.returns-then-rows-eq0
unfolding part
returns-then-rows-eq0 c = rw (step_part _ _ _ c.rows_given-rows.ensures, c.if-rows-eq0.true)

pub rows_from-requires : goal.rows_from-requires
rows_from-requires c = omega (arith, inside c)

pub returns : goal.returns
returns c = rw (step_part _ _ _ c.rows_given-rows.ensures) c.rows_from.ensures
