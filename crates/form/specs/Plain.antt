-- What the readers' answers say.
use Rattle.std.specs.Prelude.{ℕ, Result, Ok, Err}
use Rattle.long.specs.Halves.{whole}
use Rattle.long.specs.declared.Long.{Long}
use Rattle.form.specs.Read.{Read, got, stop, Run}
use Rattle.form.specs.declared.Read as code
use Rattle.form.specs.declared.Stop.{Stop}

-- the most digits of a number below 2^128
abbrev pub most_digits : ℕ
most_digits = 32

-- given characters
abbrev pub matched : Result ℕ Stop → Read Unit
matched (Ok p) = got tt p
matched (Err s) = stop s.0

-- a run of digits, by the number that its value is
abbrev pub digit_run : {N : Type 0} → (N → ℕ) → code.Read N → Run
digit_run value r = record { value = value r.value; next = r.next }

-- what was read, by what its value says
abbrev pub told : {A B : Type 0} → (A → B) → Result (code.Read A) Stop → Read B
told says (Ok r) = got (says r.value) r.next
told says (Err s) = stop s.0

-- a number
abbrev pub number : Result (code.Read Long) Stop → Read ℕ
number r = told whole r
