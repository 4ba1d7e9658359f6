-- `walker::first_part` meets its contract: what the step gives, of the walker that was opened; nothing where none was (`first_refused`).
use mathlib.Core.Path.{sym, ◌∙◌, ap}
use Rattle.std.specs.Prelude.{Result}
use Rattle.model.specs.Cycles.{step}
use Rattle.refusal.specs.declared.Refusal.{Refusal}
use Rattle.walker.specs.Walk.{Begun, opened, walked, first_part}
use Rattle.walker.proofs.Theorems.{first_refused}
use Rattle.walker.proofs.first_part.Goals as goal

pub returns-in-Ok : goal.returns-in-Ok
unfolding first_part
returns-in-Ok c =
    c.step.ensures.gives
    ∙ ap (λ (b : Result Begun Refusal). (step (walked b).trace (walked b).next).part) (ap opened (sym c.in-Ok.is) ∙ c.open_walker.ensures)

pub returns-in-Err : goal.returns-in-Err
returns-in-Err c = sym (first_refused _ _ (sym c.open_walker.ensures ∙ ap opened c.in-Err.is))
