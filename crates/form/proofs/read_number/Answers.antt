-- `form::read_number` meets its contract: a zero in front stands alone, any other digits are read.
use mathlib.Core.Path.{◌≡◌, sym, ◌∙◌}
use borrow.Author.Tests.{eqb-true, eqb-false}
use native.Mathlib.Omega.{arith}
use Rattle.long.specs.Halves.{whole}
use Rattle.form.proofs.RunLaws.{number-zero, number_other}
use Rattle.form.proofs.read_number.Goals as goal

pub returns-then-has_char : goal.returns-then-has_char
unfolding whole
returns-then-has_char c =
    let value : whole c.default.result ≡ 0 = omega (arith, c.default.ensures) in
    rw value (number-zero c.args.t.now c.args.p c.args.most (eqb-true _ _ (sym c.if-has_char.ensures)))

pub returns : goal.returns
returns c = c.read_digits.ensures ∙ number_other c.args.t.now c.args.p c.args.most (eqb-false _ _ (sym c.if-has_char.ensures))
