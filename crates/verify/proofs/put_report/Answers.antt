-- `verify::put_report` meets its contract: too long an input gets the line of refusal 10, any other the line of the checker's answer.
use mathlib.Core.Path.{sym, ◌∙◌}
use borrow.Author.Rules.{rules}
use Rattle.verify.proofs.ReportLaws.{answer-long, answer_checked}
use Rattle.verify.proofs.put_report.Goals as goal

pub returns-then-input-gt-VERIFY_BYTES : goal.returns-then-input-gt-VERIFY_BYTES
returns-then-input-gt-VERIFY_BYTES c =
    rw (answer-long _ c.if-input-gt-VERIFY_BYTES.true) (c.put_refused.ensures)

-- else the answer is the checker's

pub returns-in-Accepted : goal.returns-in-Accepted
returns-in-Accepted c = rw (answer_checked _ (search rules) ∙ sym c.check.ensures ∙ c.in-Accepted.is) c.put_accepted.ensures

pub returns-in-Broken : goal.returns-in-Broken
returns-in-Broken c = rw (answer_checked _ (search rules) ∙ sym c.check.ensures ∙ c.in-Broken.is) c.put_broken.ensures

pub returns-in-Refused : goal.returns-in-Refused
returns-in-Refused c =
    rw (answer_checked _ (search rules) ∙ sym c.check.ensures ∙ c.in-Refused.is) c.put_refused-in-Refused.ensures
