-- A trace that is let in is accepted, with the empty rows that were counted; any other is refused as it was not let in.
use Prim.Native.Nat.{ℕ}
use mathlib.Core.Path.{sym}
use native.Mathlib.Omega.{arith}
use Rattle.trace.proofs.AdmitLaws.{accepted_if_admitted, refused_if_not_admitted, empty_told}
use Rattle.std.proofs.lemmas.Result.{err_from_is_err_and}
use Rattle.walker.specs.Walk.{start_of}
use Rattle.walker.proofs.start_of.Goals as goal
use Rattle.model.specs.Cycles.{next_row}

pub returns-in_err-counts : goal.returns-in_err-counts
unfolding start_of
returns-in_err-counts c =
    let (n, why, refuses) = refused_if_not_admitted _ {A = ℕ} (sym c.in_err-counts.ensures) in
    let p = err_from_is_err_and c.from_residual.result c.from_residual.ensures.1 in
    rw (p.1, p.2, why, refuses _)

pub returns : goal.returns
unfolding start_of next_row
returns c =
    let (accepted, counted) = accepted_if_admitted c.args.t.now (λ i h. omega (arith, c.type_inv.t i)) (sym c.in_ok-counts.ensures) in
    rw (accepted.verdict, ← empty_told _ counted)
