-- No second numbers, and no second buffer, meet the contracts of the exported calls. What an array for the answer held before is not seen.
use mathlib.Core.Path.{refl}
use Rattle.promises.proofs.NoSecond.{NoSecond, no_second, equation, given, value, ref, shared, unseen, second, third, fourth, both}
use Rattle.mxp.proofs.mxp_check.Reads as mxp-check
use Rattle.mxp.proofs.mxp_open.Reads as mxp-open
use Rattle.mxp.proofs.mxp_rows.Reads as mxp-rows
use Rattle.mxp.proofs.mxp_claim.Reads as mxp-claim
use Rattle.mxp.proofs.mxp_step.Reads as mxp-step
use Rattle.mxp.proofs.mxp_last_state.Reads as mxp-last-state
use Rattle.mxp.proofs.mxp_fill.Reads as mxp-fill

-- of a trace alone
pub one_mxp_check : NoSecond mxp-check.Post (shared (unseen given)) second
one_mxp_check = equation (λ a b. refl)

pub one_mxp_open : NoSecond mxp-open.Post (shared (unseen given)) second
one_mxp_open = equation (λ a b. refl)

-- of a trace and a number
pub one_mxp_rows : NoSecond mxp-rows.Post (shared (value (unseen given))) third
one_mxp_rows = equation (λ a b. refl)

pub one_mxp_claim : NoSecond mxp-claim.Post (shared (value (unseen given))) third
one_mxp_claim = equation (λ a b. refl)

pub one_mxp_step : NoSecond mxp-step.Post (shared (value (unseen given))) third
one_mxp_step = equation (λ a b. refl)

-- of a trace, a context and a limit
pub one_mxp_last_state : NoSecond mxp-last-state.Post (shared (value (value (unseen given)))) fourth
one_mxp_last_state = equation (λ a b. refl)

-- of a list, a count and a buffer
pub one_mxp_fill : NoSecond mxp-fill.Post (shared (value (ref (unseen given)))) (both fourth third)
one_mxp_fill = no_second _ (λ κ a v e p. λ i. (p.0 i, p.1 i)) (λ a b. refl)
