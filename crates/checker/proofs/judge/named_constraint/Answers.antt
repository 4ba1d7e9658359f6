-- `checker::judge::named_constraint` names the first constraint of the three rows as they are read.
use mathlib.Core.Path.{◌∙◌, ap}
use Rattle.rules.specs.First.{named}
use Rattle.checker.proofs.RowLaws.{first_of_window}
use Rattle.checker.proofs.judge.named_constraint.Goals as goal

pub returns : goal.returns
returns c =
    (rw c.rule25.ensures at c.first_broken.ensures)
    ∙ ap named
    (first_of_window _ _ _ _ _ _ _ _ c.saturating_sub.ensures c.row_before.ensures c.row_before-2.ensures (c.read.ensures ∙ c.row.ensures)
    c.keeps_state-nine.ensures)
