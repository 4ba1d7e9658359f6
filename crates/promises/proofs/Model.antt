-- No second answer meets the contract of `model`.
use mathlib.Core.Path.{refl}
use Rattle.promises.proofs.NoSecond.{NoSecond, equation, given, answer}
use Rattle.model.proofs.row_bytes.Reads as row_bytes_lem

-- the bytes of a row
pub one_row_bytes : NoSecond row_bytes_lem.Post given answer
one_row_bytes = equation (λ a b. refl)
