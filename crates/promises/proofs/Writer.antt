-- No second buffer meets the contract of `writer`.
use mathlib.Core.Path.{refl}
use Rattle.promises.proofs.NoSecond.{NoSecond, equation, given, ref, first}
use Rattle.writer.proofs.put_row.Reads as put-row

-- a row, written
pub one_put_row : NoSecond put-row.Post (ref given) first
one_put_row = equation (λ a b. refl)
