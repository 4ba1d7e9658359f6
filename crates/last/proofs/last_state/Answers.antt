-- `last::last_state` refuses as `admit` does; an accepted trace is asked by `last_within`.
use mathlib.Core.Path.{◌≡◌, sym, ◌∙◌, ap}
use native.Mathlib.Omega.{arith}
use borrow.Author.Rules.{rules}
use Rattle.std.specs.Prelude.{Err}
use Rattle.last.specs.Last.{last_of, told_last}
use Rattle.trace.proofs.AdmitLaws.{accepted_if_admitted, refused_if_not_admitted, instructions_told}
use Rattle.last.proofs.last_state.Goals as goal

pub last_within-requires : goal.last_within-requires
last_within-requires c =
    -- the trace was let in with these counts
    let known = accepted_if_admitted c.args.t.now (λ i h. omega (arith, c.type_inv.t i)) (sym c.in_ok-counts.ensures) in
    record { accepted = known.0; cycles_value = instructions_told _ known.1 }

pub returns-in_err-counts : goal.returns-in_err-counts
unfolding last_of
returns-in_err-counts c =
    let made : c.from_residual.result ≡ Err c.in_err-counts.field-0.0 = search rules in
    let (n, number, refuses) = refused_if_not_admitted _ (sym c.admit.ensures ∙ c.in_err-counts.was) in
    made ∙ ap Err number ∙ ap told_last (sym (refuses _))
