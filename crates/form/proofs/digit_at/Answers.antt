-- `form::digit_at` meets its contract: past the end of the text there is no digit.
use mathlib.Core.Path.{sym, ◌∙◌, ap}
use Rattle.form.specs.Table.{digit_in}
use Rattle.form.proofs.StepLaws.{char_in}
use Rattle.form.proofs.TableLaws.{digit_past}
use Rattle.form.proofs.digit_at.Goals as goal

pub returns-then-p-t : goal.returns-then-p-t
returns-then-p-t c = c.digit.ensures ∙ ap digit_in (sym (char_in c.args.t.now c.args.p c.if-p-t.true))

pub returns-else-p-t : goal.returns-else-p-t
returns-else-p-t c = digit_past c.args.t.now c.args.p c.if-p-t.false
