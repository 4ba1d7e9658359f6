-- The invariant is Going: after so many cycles, back to a row, what is left of the search decides its answer. The row's number falls, since a cycle
-- has a row. Each break and each further turn is one law of SearchLaws.
use mathlib.Core.Path.{sym, ◌∙◌}
use Rattle.state.proofs.SearchLaws.{going_first, ends_at_limit, ends_at_start, ends_at_part, finds, goes_on}
use Rattle.state.proofs.look.search_back.Goals as goal
use Rattle.state.proofs.look.search_back.Goals.{then-count-limit-via-then-count-limit, then-count-limit-via-else-count-limit+then-to-eq0}

pub loop-count-init : goal.loop-count-init
loop-count-init c = going_first _ _ _ _

pub loop-count-preserved : goal.loop-count-preserved
loop-count-preserved c =
    goes_on c.loop-count.invariant c.if-to-eq0.false (rw c.of_row-end.ensures at c.cycle_rows-rows.ensures) c.if-count-limit.false c.if-to-rows.false
    (rw c.of_row-end.ensures at (sym c.is_of.ensures ∙ c.if-is_of.false))

pub returns-then-count-limit : goal.returns-then-count-limit
returns-then-count-limit c =
    elim c.then-count-limit.branch [ then-count-limit-via-then-count-limit w ↦ ends_at_limit c.loop-count.invariant w.if-count-limit.true | then-count-limit-via-else-count-limit+then-to-eq0 w ↦ ends_at_start c.loop-count.invariant w.if-to-eq0.true ]

pub returns-then-to-rows : goal.returns-then-to-rows
returns-then-to-rows c =
    ends_at_part c.loop-count.invariant c.if-to-eq0.false (rw c.of_row-end.ensures at c.cycle_rows-rows.ensures) c.if-to-rows.true

pub returns-then-is_of : goal.returns-then-is_of
returns-then-is_of c =
    finds c.loop-count.invariant c.if-to-eq0.false (rw c.of_row-end.ensures at c.cycle_rows-rows.ensures) c.if-count-limit.false c.if-to-rows.false
    (rw c.of_row-end.ensures at (sym c.is_of.ensures ∙ c.if-is_of.true))
