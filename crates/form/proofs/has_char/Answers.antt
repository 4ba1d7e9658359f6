-- `form::has_char` meets its contract: past the end of a text there is no character, so none that is this one.
use mathlib.Core.Path.{sym, ap}
use native.Mathlib.Omega.{arith}
use borrow.Author.Tests.{ltb-true, ltb-false, ne_eqb}
use lib.Dec.{eqb}
use Rattle.form.proofs.StepLaws.{char_of, char_past}
use Rattle.form.proofs.has_char.Goals as goal

pub returns-in-Some : goal.returns-in-Some
returns-in-Some c =
    let a = c.args in
    let got = c.in-Some.ensures.lookup in
    ap (λ x. eqb x a.c) (char_of a.t.now a.p (ltb-true _ _ (sym got.0)) got.1)

pub returns-in-None : goal.returns-in-None
returns-in-None c =
    let a = c.args in
    let past = char_past a.t.now a.p (ltb-false _ _ (sym c.in-None.ensures.lookup.0)) in
    sym (ne_eqb _ _ (λ e. omega (arith, past, e)))
