-- `list::line::read_end` meets its contract: the newline is there, or not.
use mathlib.Core.Bool.{true}
use mathlib.Core.Path.{◌≡◌, sym}
use native.Mathlib.Numerals.{add-one}
use native.Mathlib.Omega.{arith}
use borrow.Author.Tests.{eqb-true}
use lib.Dec.{eqb}
use Rattle.form.specs.Read.{char_at, read_text}
use Rattle.form.proofs.TextLaws.{char_inside}
use Rattle.list.proofs.line.read_end.Goals as goal

pub overflow_add-result : goal.overflow_add-result
overflow_add-result c =
    let a = c.args in
    omega (arith, char_inside a.t.now a.p _ (eqb-true _ _ (sym c.if-has_char.ensures)) (omega arith))

pub returns-then-has_char : goal.returns-then-has_char
unfolding read_text
returns-then-has_char c =
    let there : eqb (char_at c.args.t.now c.args.p) 10 ≡ true = sym c.if-has_char.ensures in
    rw (there, add-one)
