-- `mxp::mxp_check` lays out the answer that the checker gives.
use mathlib.Core.Path.{◌∙◌, ap}
use borrow.Author.Rules.{rules}
use Rattle.checker.specs.Answer.{numbers}
use Rattle.checker.specs.declared.Verdict.{Verdict}
use Rattle.out.specs.Out.{check_list}
use Rattle.mxp.proofs.mxp_check.Goals as goal

pub returns : goal.returns
returns c = c.put_verdict.ensures ∙ ap (λ (v : Verdict). check_list (numbers v)) c.check-verdict.ensures
