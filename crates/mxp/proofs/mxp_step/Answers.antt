-- `mxp::mxp_step` lays out the step from its row to the row where it goes (`step_between_lem`); its part ends inside the trace, so its numbers fit.
use mathlib.Core.Path.{◌∙◌, ap}
use native.Mathlib.Omega.{arith}
use borrow.Author.Rules.{rules}
use Rattle.part.proofs.StepLaws.{step_forward}
use Rattle.out.specs.Out.{step_list}
use Rattle.mxp.proofs.PartLaws.{step_between_lem, between_inside}
use Rattle.mxp.proofs.mxp_step.Goals as goal

pub put_step-requires : goal.put_step-requires
put_step-requires c =
    let a = c.args in
    let l = a.trace.now in
    record { next_le_after = omega (arith, step_forward l a.next, c.next_at-after.ensures); after_bound = omega (arith, between_inside l a.next _ c.next_at-after.ensures) }

pub returns : goal.returns
returns c = c.put_step.ensures ∙ ap step_list (step_between_lem _ _ _ c.next_at-after.ensures)
