-- No second answer meets the contracts of `compare`.
use mathlib.Core.Path.{refl}
use Rattle.promises.proofs.NoSecond.{NoSecond, equation, shared, given, answer}
use Rattle.compare.proofs.up_to_gas_is.Reads as up-to-gas-is
use Rattle.compare.proofs.from_comp_is.Reads as from-comp-is
use Rattle.compare.proofs.is_empty.Reads as is-empty

-- the two parts of a row, compared, and an empty row
pub one_up_to_gas_is : NoSecond up-to-gas-is.Post (shared given) answer
one_up_to_gas_is = equation (λ a b. refl)

pub one_from_comp_is : NoSecond from-comp-is.Post (shared given) answer
one_from_comp_is = equation (λ a b. refl)

pub one_is_empty : NoSecond is-empty.Post (shared given) answer
one_is_empty = equation (λ a b. refl)
