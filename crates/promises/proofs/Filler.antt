-- No second answer, and no second buffer, meets the contract of `filler`.
use mathlib.Core.Path.{refl}
use Rattle.promises.proofs.NoSecond.{NoSecond, no_second, given, value, ref, shared, answer, third, both}
use Rattle.filler.proofs.fill.Reads as fill

-- the list, the count of empty rows and the buffer are seen; the answer and the buffer are told
pub one_fill : NoSecond fill.Post (shared (value (ref given))) (both answer third)
one_fill = no_second _ (λ κ a v e p. λ i. (p.0 i, p.1 i)) (λ a b. refl)
