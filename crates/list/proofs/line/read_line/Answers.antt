-- `list::line::read_line` meets its contract: cn and op, both ranges and the newline are the line (`line-parts`).
use mathlib.Core.Path.{refl, ◌∙◌}
use native.Mathlib.Omega.{arith}
use Rattle.cell.specs.Low.{le}
use Rattle.form.proofs.StepLaws.{on_got, on_stop, stopped}
use Rattle.claim.specs.Told.{plain_fields}
use Rattle.list.specs.Line.{read_four, closed}
use Rattle.list.proofs.PartLaws.{line-parts}
use Rattle.list.proofs.line.read_line.Goals as goal

pub returns-in_err-head : goal.returns-in_err-head
returns-in_err-head c = rw line-parts (stopped plain_fields _ c.from_residual.ensures.1 ∙ on_stop _ c.in_err-head.ensures)

pub returns-in_err-first : goal.returns-in_err-first
unfolding read_four
returns-in_err-first c =
    rw line-parts
    (stopped plain_fields _ c.from_residual-in_err-first.ensures.1 ∙ on_stop _ (on_stop _ c.in_err-first.ensures) ∙ on_got _ c.in_ok-head.ensures)

pub returns-in_err-second : goal.returns-in_err-second
unfolding read_four
returns-in_err-second c =
    rw line-parts
    (stopped plain_fields _ c.from_residual-in_err-second.ensures.1
    ∙ on_stop _ (on_stop _ c.in_err-second.ensures ∙ on_got _ c.in_ok-first.ensures)
    ∙ on_got _ c.in_ok-head.ensures)

pub returns-in_err-next : goal.returns-in_err-next
unfolding read_four closed
returns-in_err-next c =
    rw line-parts
    (stopped plain_fields _ c.from_residual-in_err-next.ensures.1
    ∙ on_stop _ c.in_err-next.ensures
    ∙ on_got _ (on_got _ c.in_ok-second.ensures ∙ on_got _ c.in_ok-first.ensures)
    ∙ on_got _ c.in_ok-head.ensures)

pub returns : goal.returns
unfolding read_four closed
returns c =
    rw line-parts
    (on_got _ c.in_ok-next.ensures
    ∙ on_got _ (on_got _ c.in_ok-second.ensures ∙ on_got _ c.in_ok-first.ensures)
    ∙ on_got _ c.in_ok-head.ensures)

-- the name of the first length, whose number is its six characters
pub invariant_of-read_range-2 : goal.invariant_of-read_range-2
unfolding le
invariant_of-read_range-2 c = record { short = omega arith; spelled = refl }
