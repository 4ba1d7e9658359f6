-- No second answer meets the contracts of `part`.
use mathlib.Core.Path.{refl}
use Rattle.promises.proofs.NoSecond.{NoSecond, equation, given, shared, answer, by}
use Rattle.part.proofs.row_after.Reads as row-after
use Rattle.part.proofs.is_among.Reads as is_among
use Rattle.part.proofs.rows_from.Reads as rows-from
use Rattle.part.proofs.next_at.Reads as next-at
use Rattle.part.proofs.part_at.Reads as part_at

-- the row after so many instructions, and whether there is an instruction k
pub one_row_after : NoSecond row-after.Post (shared given) answer
one_row_after = equation (λ a b. refl)

pub one_is_among : NoSecond is_among.Post given answer
one_is_among = equation (λ a b. refl)

-- where a step from a row goes
pub one_next_at : NoSecond next-at.Post (shared given) answer
one_next_at = equation (λ a b. refl)

-- rows, told by their bytes: so many from a row on, and those that a step from a row gives
pub one_rows_from : NoSecond rows-from.Post (shared given) (by (λ x. x.now))
one_rows_from = equation (λ a b. refl)

pub one_part_at : NoSecond part_at.Post (shared given) (by (λ x. x.now))
one_part_at = equation (λ a b. refl)
