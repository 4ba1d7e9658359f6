-- `out::put_place` lays out the numbers of the place, case by case; the part's end is a number of 64 bits, so its first byte and its length are.
use Prim.Native.Nat.{◌+◌, ◌*◌, ◌^◌, ◌<◌}
use mathlib.Core.Path.{sym, ap}
use native.Mathlib.Omega.{arith}
use borrow.Author.Rules.{rules}
use Rattle.std.specs.Prelude.{Result}
use Rattle.refusal.specs.declared.Refusal.{Refusal}
use Rattle.trace.specs.declared.place.Place.{Place}
use Rattle.model.specs.Columns.{row_bytes}
use Rattle.trace.specs.Told.{part_numbers}
use Rattle.out.specs.Out.{rows_list}
use Rattle.out.proofs.put_place.Goals as goal

-- the end of the part is a number of 64 bits
pub overflow_mul-out : goal.overflow_mul-out
overflow_mul-out c = omega (arith, rw c.in-Ok.is at c.requires)

pub overflow_mul-out-in-Ok : goal.overflow_mul-out-in-Ok
overflow_mul-out-in-Ok c = omega (arith, rw c.in-Ok.is at c.requires)

pub returns-in-Ok : goal.returns-in-Ok
returns-in-Ok c = ap (λ (p : Result Place Refusal). rows_list (part_numbers p)) (sym c.in-Ok.is)

pub returns-in-Err : goal.returns-in-Err
returns-in-Err c = rw (c.number.ensures, c.line.ensures) (ap (λ (p : Result Place Refusal). rows_list (part_numbers p)) (sym c.in-Err.is))
