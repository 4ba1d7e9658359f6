-- No second answer, and no second buffer, meets the contracts of `cycle`.
use mathlib.Core.Path.{refl}
use Rattle.promises.proofs.NoSecond.{NoSecond, equation, value, given, ref, shared, answer, second}
use Rattle.cycle.proofs.rows_of.Reads as rows_of_lem
use Rattle.cycle.proofs.Cycle.rows.Reads as cycle_rows_lem
use Rattle.cycle.proofs.Cycle.put.Reads as put-cycle
use Rattle.cycle.proofs.Cycle.stands.Reads as cycle-stands

-- how many rows a cycle has, and the cycle, written and compared
pub one_rows_of : NoSecond rows_of_lem.Post given answer
one_rows_of = equation (λ a b. refl)

pub one_rows : NoSecond cycle_rows_lem.Post given answer
one_rows = equation (λ a b. refl)

pub one_put_cycle : NoSecond put-cycle.Post (value (ref given)) second
one_put_cycle = equation (λ a b. refl)

pub one_cycle_stands : NoSecond cycle-stands.Post (value (shared given)) answer
one_cycle_stands = equation (λ a b. refl)
