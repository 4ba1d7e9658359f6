-- `form::run_digits` meets its contract: a first run of at most 16 digits, and where it has 16, the run goes on behind it (`run_rest`); where it has fewer, it
-- is all of it (`run_first`).
use Prim.Native.Nat.{◌-◌}
use mathlib.Core.Path.{◌≡◌, ◌∙◌, ap}
use native.Mathlib.Nat.{one-le-pow}
use native.Mathlib.Omega.{arith}
use Rattle.long.specs.Halves.{whole}
use Rattle.long.proofs.LongLaws.{whole_long}
use Rattle.form.proofs.RunLaws.{run_first, run_rest, digits_fit}
use Rattle.form.proofs.run_digits.Goals as goal

pub run_on-first-requires-clause-small : goal.run_on-first-requires-clause-small
run_on-first-requires-clause-small c = one-le-pow (16 - c.min.result) 16 (omega arith)

pub returns-then-next-p-lt16-clause-run : goal.returns-then-next-p-lt16-clause-run
returns-then-next-p-lt16-clause-run c =
    let a = c.args in
    let first = c.run_on-first.ensures in
    let value = ap whole c.from-start.ensures ∙ whole_long _ in
    rw value (run_first a.t.now a.most a.p (rw c.min.ensures at first.run) (omega (arith, first.forward)))

pub overflow_sub-most : goal.overflow_sub-most
overflow_sub-most c =
    let a = c.args in
    let first = c.run_on-first.ensures in
    omega (arith, (run_rest a.t.now a.most a.p (rw c.min.ensures at first.run) (omega (arith, first.forward))).0)

pub run_on-requires-clause-small : goal.run_on-requires-clause-small
run_on-requires-clause-small c =
    let value : whole c.from-start.result ≡ c.run_on-first.result.value = ap whole c.from-start.ensures ∙ whole_long _ in
    digits_fit _ 16 _ (rw value (omega arith)) (omega arith)

pub returns-clause-run : goal.returns-clause-run
returns-clause-run c =
    let a = c.args in
    let first = c.run_on-first.ensures in
    let value = ap whole c.from-start.ensures ∙ whole_long _ in
    rw value at c.run_on.ensures.run ∙ (run_rest a.t.now a.most a.p (rw c.min.ensures at first.run) (omega (arith, first.forward))).1
