-- A step moves past the rows that it gives, and does not leave the trace.
use native.Mathlib.Omega.{arith}
use Rattle.part.proofs.StepLaws.{step_inside}
use Rattle.part.proofs.next_at.Goals as goal

pub overflow_add-result : goal.overflow_add-result
overflow_add-result c = omega (arith, step_inside c.args.t.now c.args.next, c.rows_given.ensures)
