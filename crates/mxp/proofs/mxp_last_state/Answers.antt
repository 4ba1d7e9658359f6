-- `mxp::mxp_last_state` lays out the answer to the last-state question.
use mathlib.Core.Path.{◌∙◌, ap}
use borrow.Author.Rules.{rules}
use Rattle.std.specs.Prelude.{Result}
use Rattle.refusal.specs.declared.Refusal.{Refusal}
use Rattle.state.specs.declared.look.Looked.{Looked}
use Rattle.last.specs.Last.{last_numbers}
use Rattle.out.specs.Out.{last_list}
use Rattle.mxp.proofs.mxp_last_state.Goals as goal

pub returns : goal.returns
returns c = c.put_last.ensures ∙ ap (λ (a : Result Looked Refusal). last_list (last_numbers a)) c.last_state-last.ensures
