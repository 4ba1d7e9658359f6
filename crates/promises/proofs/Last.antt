-- No second answer meets the contract of `last`.
use mathlib.Core.Path.{refl}
use Rattle.promises.proofs.NoSecond.{NoSecond, equation, given, shared, answer}
use Rattle.last.proofs.last_state.Reads as last-state

-- the last state of a context
pub one_last_state : NoSecond last-state.Post (shared given) answer
one_last_state = equation (λ a b. refl)
