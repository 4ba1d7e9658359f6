-- `trace::place::rows_of` meets its contract: the part runs over the rows of the place that was told, which are all there (`told_stands`).
use mathlib.Core.Path.{sym, ◌∙◌, ap}
use native.Mathlib.Omega.{arith}
use Rattle.std.specs.Prelude.{Ok, Err}
use Rattle.std.proofs.lemmas.Result.{err_from_is_err_and}
use Rattle.trace.specs.Told.{told_rows}
use Rattle.trace.proofs.PlaceLaws.{told_stands, told_refused}
use Rattle.trace.proofs.place.rows_of.Goals as goal

pub returns-in_err-place : goal.returns-in_err-place
returns-in_err-place c =
    let e = told_refused _ (sym c.in_err-place.ensures) in
    let p = err_from_is_err_and c.from_residual.result c.from_residual.ensures.1 in
    rw (p.1, p.2) (ap Err e.1 ∙ sym (ap (told_rows c.args.t.now) e.2))

pub rows_from-requires : goal.rows_from-requires
rows_from-requires c =
    let stands = told_stands _ (λ i h. omega (arith, c.type_inv.t i)) c.args.k (sym c.in_ok-place.ensures) in
    omega (arith, stands.inside)

pub returns : goal.returns
returns c =
    let stands = told_stands _ (λ i h. omega (arith, c.type_inv.t i)) c.args.k (sym c.in_ok-place.ensures) in
    rw (stands.cycle, ← stands.rows) (ap Ok c.rows_from.ensures)
