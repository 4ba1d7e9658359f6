-- `trace::place::claim_at` meets its contract: the claim is the one that the first row of the told place shows (`told_stands`).
use mathlib.Core.Path.{sym, ◌∙◌, ap}
use native.Mathlib.Omega.{arith}
use Rattle.std.specs.Prelude.{Ok, Err}
use Rattle.std.proofs.lemmas.Result.{err_from_is_err_and}
use Rattle.number.proofs.WholeLaws.{wide_is}
use Rattle.model.specs.Cycles.{Claim, claim_of}
use Rattle.trace.specs.Asked.{claim_in}
use Rattle.trace.specs.Told.{told_claimed}
use Rattle.trace.proofs.PlaceLaws.{told_stands, told_refused}
use Rattle.trace.proofs.place.claim_at.Goals as goal

pub returns-in_err-place : goal.returns-in_err-place
returns-in_err-place c =
    let e = told_refused _ (sym c.in_err-place.ensures) in
    let p = err_from_is_err_and c.from_residual.result c.from_residual.ensures.1 in
    rw (p.1, p.2) (ap Err e.1 ∙ sym (ap (λ a. told_claimed (claim_in a)) e.2))

pub of_row-requires : goal.of_row-requires
of_row-requires c =
    let stands = told_stands _ (λ i h. omega (arith, c.type_inv.t i)) c.args.k (sym c.in_ok-place.ensures) in
    omega (arith, stands.inside, stands.rows)

pub returns : goal.returns
returns c =
    let stands = told_stands _ (λ i h. omega (arith, c.type_inv.t i)) c.args.k (sym c.in_ok-place.ensures) in
    let x = c.claim_in.result in
    let ok = c.claim_in.type_inv in
    let shown = c.claim_in.ensures ∙ ap claim_of c.of_row.ensures in
    let cn = ap (λ (y : Claim). y.context.cn) shown in
    let end1 = wide_is x.end1 _ (ap (λ (y : Claim). y.end1) shown) (omega (arith, ok)) (omega (arith, ok)) in
    let end2 = wide_is x.end2 _ (ap (λ (y : Claim). y.end2) shown) (omega (arith, ok)) (omega (arith, ok)) in
    rw stands.cycle (λ i. Ok (record { context = record { cn = cn i }; end1 = end1 i; end2 = end2 i }))
