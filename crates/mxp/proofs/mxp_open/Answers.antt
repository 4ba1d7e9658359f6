-- `mxp::mxp_open` lays out the walker's start.
use mathlib.Core.Path.{◌∙◌, ap}
use borrow.Author.Rules.{rules}
use Rattle.std.specs.Prelude.{Result, ℕ}
use Rattle.refusal.specs.declared.Refusal.{Refusal}
use Rattle.walker.specs.Walk.{start_numbers}
use Rattle.out.specs.Out.{open_list}
use Rattle.mxp.proofs.mxp_open.Goals as goal

pub returns : goal.returns
returns c = c.put_start.ensures ∙ ap (λ (s : Result ℕ Refusal). open_list (start_numbers s)) c.start_of-start.ensures
