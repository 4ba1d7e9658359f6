-- `checker::rows_in` refuses as 9 and 10 say, in that order.
use mathlib.Core.Path.{refl, sym, ap}
use native.Mathlib.Omega.{arith}
use Rattle.model.proofs.VerdictLaws.{unfit_true, unfit_false, refused_length, refused_rows}
use Rattle.checker.specs.Answer.{told}
use Rattle.checker.proofs.rows_in.Goals as goal

pub returns-then-t : goal.returns-then-t
returns-then-t c =
    let l = c.args.t.now in
    ap told (sym ((refused_length l).1 ((unfit_true l).0 c.if-t.true)))

pub returns-then-count-gt-MAX_ROWS : goal.returns-then-count-gt-MAX_ROWS
returns-then-count-gt-MAX_ROWS c =
    let l = c.args.t.now in
    let fit = (unfit_false l).0 c.if-t.false in
    ap told (sym ((refused_rows l).1 (fit.1, omega arith)))

pub returns : goal.returns
returns c =
    let fit = (unfit_false c.args.t.now).0 c.if-t.false in
    record { sized = record { some = fit.0; whole = fit.1; rows = omega arith }; all = refl; counted = refl }
