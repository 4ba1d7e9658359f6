-- No second answer meets the contracts of `trace`.
use mathlib.Core.Path.{refl}
use Rattle.promises.proofs.NoSecond.{NoSecond, equation, given, shared, answer, by}
use Rattle.trace.specs.Told.{rows_now}
use Rattle.trace.proofs.admit.admit.Reads as admit
use Rattle.trace.proofs.place.place_of.Reads as place_of
use Rattle.trace.proofs.place.claim_at.Reads as claim-at
use Rattle.trace.proofs.place.rows_of.Reads as rows_of_lem

-- the counts of an accepted trace, the place of instruction k and its claim
pub one_admit : NoSecond admit.Post (shared given) answer
one_admit = equation (λ a b. refl)

pub one_place_of : NoSecond place_of.Post (shared given) answer
one_place_of = equation (λ a b. refl)

pub one_claim_at : NoSecond claim-at.Post (shared given) answer
one_claim_at = equation (λ a b. refl)

-- its rows, told by their bytes, or why there are none
pub one_rows_of : NoSecond rows_of_lem.Post (shared given) (by rows_now)
one_rows_of = equation (λ a b. refl)
