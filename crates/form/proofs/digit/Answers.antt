-- `form::digit` meets its contract: an entry of the table past 15 is that of no digit, any other what a digit counts. The prover computes that each of the 256
-- entries is the definition's.
use mathlib.Core.Path.{◌≡◌, refl, ◌∙◌, ap}
use native.Mathlib.Omega.{arith}
use Rattle.std.specs.Prelude.{Some}
use Rattle.form.specs.declared.TheConstants.{COUNTS}
use Rattle.form.specs.Hex.{is_digit, digit_of}
use Rattle.form.specs.Table.{digit_table}
use Rattle.form.proofs.TableLaws.{found, some_digit, none_digit}
use Rattle.form.proofs.digit.Goals as goal

-- the code's table
table : COUNTS ≡ digit_table
unfolding digit_table is_digit digit_of
table = refl

pub returns-then-count-lt16 : goal.returns-then-count-lt16
returns-then-count-lt16 c =
    let entry = found table c.args.c (omega arith) in
    ap (λ x. Some x) entry ∙ some_digit c.args.c (omega (arith, entry))

pub returns-else-count-lt16 : goal.returns-else-count-lt16
returns-else-count-lt16 c =
    let entry = found table c.args.c (omega arith) in
    none_digit c.args.c (omega (arith, entry))
