-- `form::read_pair` meets its contract: there is no digit, one, or both.
use Prim.Native.Nat.{◌+◌}
use mathlib.Core.Path.{sym, ◌∙◌, ap}
use native.Mathlib.Omega.{arith}
use Rattle.long.specs.Halves.{whole}
use Rattle.long.proofs.LongLaws.{whole_long}
use Rattle.form.specs.Read.{char_at}
use Rattle.form.proofs.TableLaws.{digit_some, digit_none, digit_inside}
use Rattle.form.proofs.RunLaws.{pair_none, pair_one, pair_told}
use Rattle.form.proofs.read_pair.Goals as goal

pub returns-in_default : goal.returns-in_default
returns-in_default c =
    let a = c.args in
    pair_none a.t.now a.p (digit_none _ (sym c.in_default.ensures))

pub overflow_add-q : goal.overflow_add-q
overflow_add-q c =
    let a = c.args in
    omega (arith, digit_inside a.t.now a.p (sym c.in-Some.ensures))

pub returns-in_default-digit_at : goal.returns-in_default-digit_at
returns-in_default-digit_at c =
    let a = c.args in
    pair_one a.t.now a.p (sym c.in-Some.ensures) (digit_none _ (sym c.in_default-digit_at.ensures))

pub overflow_mul-a : goal.overflow_mul-a
overflow_mul-a c = omega (arith, (digit_some (char_at c.args.t.now c.args.p) (sym c.in-Some.ensures)).2)

pub overflow_add-a : goal.overflow_add-a
overflow_add-a c =
    let a = c.args in
    omega
    (arith, (digit_some (char_at a.t.now a.p) (sym c.in-Some.ensures)).2, (digit_some (char_at a.t.now (a.p + 1)) (sym c.in-Some-digit_at.ensures)).2)

pub overflow_add-result : goal.overflow_add-result
overflow_add-result c =
    let a = c.args in
    omega (arith, digit_inside a.t.now (a.p + 1) (sym c.in-Some-digit_at.ensures))

pub returns : goal.returns
returns c =
    let a = c.args in
    let value = ap whole c.from-2.ensures ∙ whole_long _ ∙ c.from.ensures in
    rw value (pair_told a.t.now a.p (sym c.in-Some.ensures) (sym c.in-Some-digit_at.ensures))
