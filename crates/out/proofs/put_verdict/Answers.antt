-- `out::put_verdict` lays out the numbers of the verdict, case by case.
use mathlib.Core.Path.{sym, ap}
use borrow.Author.Rules.{rules}
use Rattle.checker.specs.Answer.{numbers}
use Rattle.checker.specs.declared.Verdict.{Verdict}
use Rattle.out.specs.Out.{check_list}
use Rattle.out.proofs.put_verdict.Goals as goal

pub returns-in-Accepted : goal.returns-in-Accepted
returns-in-Accepted c = ap (λ (v : Verdict). check_list (numbers v)) (sym c.in-Accepted.is)

pub returns-in-Broken : goal.returns-in-Broken
returns-in-Broken c = ap (λ (v : Verdict). check_list (numbers v)) (sym c.in-Broken.is)

pub returns-in-Refused : goal.returns-in-Refused
returns-in-Refused c = rw (c.number.ensures, c.line.ensures) (ap (λ (v : Verdict). check_list (numbers v)) (sym c.in-Refused.is))
