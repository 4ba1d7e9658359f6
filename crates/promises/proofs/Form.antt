-- No second answer meets the contracts of `form`.
use mathlib.Core.Path.{◌≡◌, refl, sym, ◌∙◌, ap}
use Rattle.std.specs.Prelude.{ℕ, Result, Ok, Err}
use Rattle.form.specs.Plain.{matched, number}
use Rattle.form.specs.Read.{Read, got, stop}
use Rattle.form.specs.declared.Stop.{Stop}
use Rattle.promises.proofs.NoSecond.{NoSecond, no_second, equation, given, shared, answer, by}
use Rattle.long.specs.Halves.{whole}
use Rattle.form.proofs.U64Spelled.with_digit.Reads as with-digit
use Rattle.form.proofs.LongSpelled.with_digit.Reads as with-digit-long
use Rattle.form.proofs.has_char.Reads as has_char
use Rattle.form.proofs.read_name.Reads as read_name
use Rattle.form.proofs.read_number.Reads as read_number
use Rattle.form.proofs.read_pair.Reads as read-pair

-- the code's answer from the one that the definitions read in it
abbrev code_matched : Read Unit → Result ℕ Stop
code_matched (got u p) = Ok p
code_matched (stop p) = Err (record { 0 = p })

again : (m : Result ℕ Stop) → code_matched (matched m) ≡ m
again (Ok p) = refl
again (Err s) = refl

-- one digit more
pub one_with_digit : NoSecond with-digit.Post given answer
one_with_digit = equation (λ a b. refl)

pub one_with_digit_long : NoSecond with-digit-long.Post given (by whole)
one_with_digit_long = equation (λ a b. refl)

-- one character
pub one_has_char : NoSecond has_char.Post (shared given) answer
one_has_char = equation (λ a b. refl)

-- names and numbers that are read
pub one_read_name : NoSecond read_name.Post (shared given) answer
one_read_name = no_second _ (λ κ a v e p. sym (again v) ∙ ap code_matched p) (λ a b. refl)

pub one_read_number : NoSecond read_number.Post (shared given) (by number)
one_read_number = equation (λ a b. refl)

pub one_read_pair : NoSecond read-pair.Post (shared given) (by number)
one_read_pair = equation (λ a b. refl)
