-- `out::put_claimed` lays out the numbers of the claim, its ends by their parts (`claim_out_lem`).
use mathlib.Core.Path.{sym, ◌∙◌, ap}
use native.Mathlib.Omega.{arith}
use borrow.Author.Rules.{rules}
use Rattle.std.specs.Prelude.{Result}
use Rattle.refusal.specs.declared.Refusal.{Refusal}
use Rattle.claim.specs.declared.claim.Claim.{Claim}
use Rattle.number.specs.Whole.{wide}
use Rattle.trace.specs.Told.{claim_numbers}
use Rattle.out.specs.Out.{claim_list}
use Rattle.out.proofs.OutLaws.{claim_out_lem}
use Rattle.out.proofs.put_claimed.Goals as goal

pub returns-in-Ok : goal.returns-in-Ok
returns-in-Ok c =
    claim_out_lem c.in-Ok.c (omega arith) (omega arith) (omega arith) (omega arith)
    ∙ ap (λ (a : Result Claim Refusal). claim_list (claim_numbers a)) (sym c.in-Ok.is)

pub returns-in-Err : goal.returns-in-Err
unfolding wide
returns-in-Err c = rw (c.number.ensures, c.line.ensures) (ap (λ (a : Result Claim Refusal). claim_list (claim_numbers a)) (sym c.in-Err.is))
