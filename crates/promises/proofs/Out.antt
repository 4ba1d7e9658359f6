-- No second numbers meet the contracts of `out`. What an array for the answer held before is not seen.
use mathlib.Core.Path.{refl}
use Rattle.promises.proofs.NoSecond.{NoSecond, equation, given, value, unseen, second, third}
use Rattle.out.proofs.put_verdict.Reads as put-verdict
use Rattle.out.proofs.put_filled.Reads as put-filled
use Rattle.out.proofs.put_place.Reads as put-place
use Rattle.out.proofs.put_claimed.Reads as put-claimed
use Rattle.out.proofs.put_last.Reads as put_last
use Rattle.out.proofs.put_start.Reads as put-start
use Rattle.out.proofs.put_step.Reads as put_step

-- of one answer of the stage
pub one_put_verdict : NoSecond put-verdict.Post (value (unseen given)) second
one_put_verdict = equation (λ a b. refl)

pub one_put_filled : NoSecond put-filled.Post (value (unseen given)) second
one_put_filled = equation (λ a b. refl)

pub one_put_place : NoSecond put-place.Post (value (unseen given)) second
one_put_place = equation (λ a b. refl)

pub one_put_claimed : NoSecond put-claimed.Post (value (unseen given)) second
one_put_claimed = equation (λ a b. refl)

pub one_put_last : NoSecond put_last.Post (value (unseen given)) second
one_put_last = equation (λ a b. refl)

pub one_put_start : NoSecond put-start.Post (value (unseen given)) second
one_put_start = equation (λ a b. refl)

-- of two rows
pub one_put_step : NoSecond put_step.Post (value (value (unseen given))) third
one_put_step = equation (λ a b. refl)
