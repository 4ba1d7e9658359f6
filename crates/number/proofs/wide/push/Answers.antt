-- `number::wide::push` meets its contract: `shifts` says what each part gains and loses.
use mathlib.Core.Path.{refl}
use native.Mathlib.Omega.{arith}
use Rattle.number.proofs.WholeLaws.{shifts, shifted_fits}
use Rattle.number.proofs.wide.push.Goals as goal

pub overflow_add-result : goal.overflow_add-result
overflow_add-result c = record { fits = shifted_fits _ _ (omega arith) }

pub returns : goal.returns
returns c = shifts _ _ _ refl refl refl
