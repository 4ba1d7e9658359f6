-- `out::put_step` lays out the numbers of a step that stays (`between_stays`), and of one that moves (`between_moves`).
use Prim.Native.Nat.{◌+◌, ◌*◌, ◌-◌, ◌^◌, ◌<◌}
use mathlib.Core.Path.{sym, ap}
use native.Mathlib.Omega.{arith}
use borrow.Author.Rules.{rules}
use borrow.Author.Tests.{ne_eqb}
use Rattle.model.specs.Columns.{row_bytes}
use Rattle.out.specs.Out.{step_list}
use Rattle.out.proofs.OutLaws.{between_stays, between_moves}
use Rattle.out.proofs.put_step.Goals as goal
use Rattle.out.proofs.put_step.Goals.{Else-after-next}

-- where the step moves, the end of its part is a number of 64 bits
inside : (c : Else-after-next) → let a = c.args in a.next * row_bytes + (a.after - a.next) * row_bytes < 2 ^ 64
inside c = rw (ne_eqb c.args.after c.args.next c.if-after-next.false) at c.requires.after_bound

pub overflow_mul-out : goal.overflow_mul-out
overflow_mul-out c = omega (arith, inside c)

pub overflow_mul-out-else-after-next : goal.overflow_mul-out-else-after-next
overflow_mul-out-else-after-next c = omega (arith, inside c)

pub returns-then-after-next : goal.returns-then-after-next
returns-then-after-next c = ap step_list (sym (between_stays _ _ c.if-after-next.true))

pub returns-else-after-next : goal.returns-else-after-next
returns-else-after-next c = ap step_list (sym (between_moves _ _ c.if-after-next.false))
