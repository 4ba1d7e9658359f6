-- `mxp::mxp_claim` lays out the claim that the call over the trace answers with.
use mathlib.Core.Path.{◌∙◌, ap}
use borrow.Author.Rules.{rules}
use Rattle.std.specs.Prelude.{Result}
use Rattle.refusal.specs.declared.Refusal.{Refusal}
use Rattle.claim.specs.declared.claim.Claim.{Claim}
use Rattle.trace.specs.Told.{claim_numbers}
use Rattle.out.specs.Out.{claim_list}
use Rattle.mxp.proofs.mxp_claim.Goals as goal

pub returns : goal.returns
returns c = c.put_claimed.ensures ∙ ap (λ (a : Result Claim Refusal). claim_list (claim_numbers a)) c.claim_at-claimed.ensures
