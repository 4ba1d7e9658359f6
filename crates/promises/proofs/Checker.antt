-- No second answer meets the contract of `checker`.
use mathlib.Core.Path.{refl}
use Rattle.promises.proofs.NoSecond.{NoSecond, equation, shared, given, answer}
use Rattle.checker.proofs.check.Reads as check

pub one_check : NoSecond check.Post (shared given) answer
one_check = equation (λ a b. refl)
