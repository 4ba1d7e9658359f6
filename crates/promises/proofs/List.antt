-- No second answer meets the contracts of `list`.
use mathlib.Core.Path.{refl}
use Rattle.list.specs.Told.{line_read}
use Rattle.promises.proofs.NoSecond.{NoSecond, equation, given, shared, answer, by}
use Rattle.list.proofs.RefusalFromRejected.from.Reads as from
use Rattle.list.proofs.line.read_line.Reads as read-line
use Rattle.list.proofs.next_line.Reads as next_line_lem

-- why a line is refused
pub one_from_rejected : NoSecond from.Post given answer
one_from_rejected = equation (λ a b. refl)

-- a line by its fields, and the next instruction of a list
pub one_read_line : NoSecond read-line.Post (shared given) (by line_read)
one_read_line = equation (λ a b. refl)

pub one_next_line : NoSecond next_line_lem.Post (shared given) answer
one_next_line = equation (λ a b. refl)
