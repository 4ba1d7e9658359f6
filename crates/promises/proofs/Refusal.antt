-- No second answer meets the contracts of `refusal`.
use mathlib.Core.Path.{refl}
use Rattle.promises.proofs.NoSecond.{NoSecond, equation, given, answer}
use Rattle.refusal.proofs.Refusal.number.Reads as number
use Rattle.refusal.proofs.Refusal.line.Reads as line

-- document 01's number of a refusal, and the line that it names
pub one_number : NoSecond number.Post given answer
one_number = equation (λ a b. refl)

pub one_line : NoSecond line.Post given answer
one_line = equation (λ a b. refl)
