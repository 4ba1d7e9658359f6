-- No second answer meets the contracts of `long`.
use mathlib.Core.Path.{refl}
use Rattle.promises.proofs.NoSecond.{NoSecond, equation, given, answer}
use Rattle.long.proofs.LongFromU64.from.Reads as from
use Rattle.long.proofs.Long.is_zero.Reads as is_zero
use Rattle.long.proofs.Long.push.Reads as push
use Rattle.long.proofs.sum.Reads as sum

pub one_from : NoSecond from.Post given answer
one_from = equation (λ a b. refl)

pub one_is_zero : NoSecond is_zero.Post given answer
one_is_zero = equation (λ a b. refl)

pub one_push : NoSecond push.Post given answer
one_push = equation (λ a b. refl)

pub one_sum : NoSecond sum.Post given answer
one_sum = equation (λ a b. refl)
