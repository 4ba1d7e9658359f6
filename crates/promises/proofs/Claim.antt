-- No second answer meets the contracts of `claim`.
use mathlib.Core.Path.{refl}
use Rattle.claim.specs.Told.{plain_claim}
use Rattle.promises.proofs.NoSecond.{NoSecond, equation, shared, given, answer, by}
use Rattle.claim.proofs.instruction.decode_fields.Reads as decode-fields
use Rattle.claim.proofs.claim.claim_of.Reads as claim-of
use Rattle.claim.proofs.claim.claim_in.Reads as claim-in

-- from fields to an instruction, and from it to its claim
pub one_decode_fields : NoSecond decode-fields.Post given answer
one_decode_fields = equation (λ a b. refl)

pub one_claim_of : NoSecond claim-of.Post given answer
one_claim_of = equation (λ a b. refl)

-- the claim that a row shows, as the model reads it
pub one_claim_in : NoSecond claim-in.Post (shared given) (by plain_claim)
one_claim_in = equation (λ a b. refl)
