-- `lines::reading::Claims::next` meets its contract: a line that is an instruction ends further on and inside of the list (`told_inside`), and its claim is
-- what is told (`claimed`).
use mathlib.Core.Path.{sym, ◌∙◌, ap}
use native.Mathlib.Omega.{arith}
use Rattle.std.specs.Prelude.{Ok}
use Rattle.lines.proofs.ReadLaws.{claimed, told_inside}
use Rattle.lines.proofs.reading.Claims.next.Goals as goal

pub invariant_of-self-clause-inside : goal.invariant_of-self-clause-inside
invariant_of-self-clause-inside c =
    let inside = (told_inside _ _ _ (sym c.next_line.ensures ∙ c.in_ok-line.was ∙ ap Ok c.in-Some.is)).1 in
    omega (arith, inside)

pub invariant_of-self-clause-ahead : goal.invariant_of-self-clause-ahead
invariant_of-self-clause-ahead c =
    let further = told_inside _ _ _ (sym c.next_line.ensures ∙ c.in_ok-line.was ∙ ap Ok c.in-Some.is) in
    omega arith

pub returns-clause-value : goal.returns-clause-value
returns-clause-value c = claimed _ _ (sym c.next_line.ensures ∙ c.in_ok-line.was ∙ ap Ok c.in-Some.is) c.claim_of.ensures
