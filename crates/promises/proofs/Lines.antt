-- No second answer, and no second buffer, meets the contracts of `lines`.
use mathlib.Core.Path.{refl}
use Rattle.promises.proofs.NoSecond.{NoSecond, equation, given, ref, shared, answer, first, second}
use Rattle.lines.proofs.put_empty.Reads as put-empty
use Rattle.lines.proofs.count_rows.Reads as count-rows
use Rattle.lines.proofs.put_cycles.Reads as put-cycles

-- the empty rows written
pub one_put_empty : NoSecond put-empty.Post (ref given) first
one_put_empty = equation (λ a b. refl)

-- what the list comes to
pub one_count_rows : NoSecond count-rows.Post (shared given) answer
one_count_rows = equation (λ a b. refl)

-- the list and the buffer are seen, and the buffer is told
pub one_put_cycles : NoSecond put-cycles.Post (shared (ref given)) second
one_put_cycles = equation (λ a b. refl)
