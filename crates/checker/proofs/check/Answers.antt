-- `checker::check` gives the judgement on the whole rows, or why there are none.
use mathlib.Core.Path.{◌∙◌}
use Rattle.checker.proofs.RowLaws.{judged_rows}
use Rattle.checker.proofs.check.Goals as goal

pub returns-in-Ok : goal.returns-in-Ok
returns-in-Ok c = c.verdict_on.ensures ∙ judged_rows _ _ _ c.in-Ok.ensures
