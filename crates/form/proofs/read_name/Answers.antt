-- `form::read_name` meets its contract: where the number of the characters ends with the name's the name stands there (`name_stands`), else it is walked.
use Prim.Native.Nat.{◌+◌, ◌-◌, ◌%◌, ◌^◌}
use mathlib.Core.Path.{◌≡◌, sym}
use native.Mathlib.Omega.{arith}
use borrow.Author.Tests.{leb-true, eqb-true}
use lib.ListN.{length}
use Rattle.number.proofs.TestLaws.{both}
use Rattle.cell.specs.Low.{low_num}
use Rattle.form.proofs.NameLaws.{name_stands}
use Rattle.form.proofs.read_name.Goals as goal

pub overflow_add-result : goal.overflow_add-result
overflow_add-result c =
    let a = c.args in
    omega (arith, leb-true (a.p + 8) (length a.t.now) (both _ _ (sym c.if-stands.ensures)).0, a.name.short)

pub returns-then-stands : goal.returns-then-stands
returns-then-stands c =
    let a = c.args in
    let name = a.name in
    let len = length name.text.now in
    let told = both _ _ (sym c.if-stands.ensures) in
    let here = leb-true (a.p + 8) (length a.t.now) told.0 in
    let all : len + (8 - len) ≡ 8 = omega (arith, name.short) in
    let same : low_num a.t.now a.p (len + (8 - len)) % 256 ^ len ≡ name.number = rw all (eqb-true _ _ told.1) in
    let stands = name_stands a.t.now (λ i. omega (arith, c.type_inv.t i)) len (8 - len) name.number a.p (omega (arith, name.short)) same in
    sym (rw (← name.spelled) at stands)
