-- `text::put_decimal` meets its contract: `fewest_digits` says that the digits which `io` counts and makes are the number in decimal.
use mathlib.Core.Path.{◌∙◌}
use Rattle.text.proofs.DecimalLaws.{fewest_digits}
use Rattle.text.proofs.put_decimal.Goals as goal

pub returns-clause-put : goal.returns-clause-put
returns-clause-put c =
    let made = c.decimal-k.ensures in
    rw (made.digits ∙ fewest_digits c.args.n _ made.len) at c.put_bytes.ensures
