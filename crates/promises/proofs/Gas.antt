-- No second answer meets the contracts of `gas`.
use mathlib.Core.Path.{refl}
use Rattle.promises.proofs.NoSecond.{NoSecond, no_second, given, answer}
use Rattle.gas.proofs.words_of.Reads as words_of
use Rattle.gas.proofs.cost_of.Reads as cost-of
use Rattle.gas.proofs.split_of.Reads as split-of

-- words, what they cost, and the parts of their square
pub one_words_of : NoSecond words_of.Post given answer
one_words_of = no_second _ (λ κ a v e p. λ i. record { 0 = p i }) (λ a b. refl)

pub one_cost_of : NoSecond cost-of.Post given answer
one_cost_of = no_second _ (λ κ a v e p. λ i. record { 0 = p i }) (λ a b. refl)

pub one_split_of : NoSecond split-of.Post given answer
one_split_of = no_second _ (λ κ a v e p. λ i. record { q2 = (p i).q2; e = (p i).e; low = (p i).low }) (λ a b. refl)
