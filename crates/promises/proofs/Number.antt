-- No second answer meets the contracts of `number`. Of a value of 17 bytes a contract may speak by `val`: nothing is lost by it, as `val_injective`
-- of `number` says.
use Prim.Native.Nat.{ℕ, ◌+◌, ◌*◌, ◌-◌, ◌^◌}
use mathlib.Core.Path.{◌≡◌, refl}
use native.Mathlib.Omega.{arith}
use Rattle.number.specs.Whole.{val}
use Rattle.promises.proofs.NoSecond.{NoSecond, no_second, equation, given, shared, answer, by}
use Rattle.number.proofs.wide.WideFromU64.from.Reads as from
use Rattle.number.proofs.wide.WideDefault.default.Reads as default
use Rattle.number.proofs.wide.WidePartialEq.eq.Reads as eq
use Rattle.number.proofs.wide.WideOrd.cmp.Reads as cmp
use Rattle.number.proofs.wide.WidePartialOrd.partial_cmp.Reads as partial_cmp
use Rattle.number.proofs.wide.is_next.Reads as is-next
use Rattle.number.proofs.wide.in_bounds.Reads as in_bounds
use Rattle.number.proofs.wide.minus.Reads as minus
use Rattle.number.proofs.wide.minus_bound.Reads as minus-bound
use Rattle.number.proofs.wide.push.Reads as push

-- a small number, and zero
pub one_from : NoSecond from.Post given (by val)
one_from = equation (λ a b. refl)

pub one_default : NoSecond default.Post given (by val)
one_default = equation (λ a b. refl)

-- comparisons
pub one_eq : NoSecond eq.Post (shared (shared given)) answer
one_eq = equation (λ a b. refl)

pub one_cmp : NoSecond cmp.Post (shared (shared given)) answer
one_cmp = equation (λ a b. refl)

pub one_partial_cmp : NoSecond partial_cmp.Post (shared (shared given)) answer
one_partial_cmp = equation (λ a b. refl)

pub one_is_next : NoSecond is-next.Post given answer
one_is_next = equation (λ a b. refl)

pub one_in_bounds : NoSecond in_bounds.Post given answer
one_in_bounds = equation (λ a b. refl)

pub one_minus : NoSecond minus.Post given (by val)
one_minus = equation (λ a b. refl)

pub one_minus_bound : NoSecond minus-bound.Post given (by val)
one_minus_bound = equation (λ a b. refl)

-- a summand is what the other leaves of the sum
rest : (m r n : ℕ) → m + r ≡ n → r ≡ n - m
rest m r n e = omega arith

-- here the contract is a sum
pub one_push : NoSecond push.Post given (by val)
one_push = no_second _ (λ κ a v e p. rest (a.0.top * 256 ^ 17) (val v) _ p) (λ a b. refl)
