-- `beyond::Beyond::distance` meets its contract: the test of the first end is the model's.
use mathlib.Core.Path.{sym, ◌∙◌}
use borrow.Author.Tests.{lt-leb, le-leb, ltb-true, ltb-false}
use Rattle.number.specs.Whole.{val, bound}
use Rattle.model.specs.Trace.{beyond_end}
use Rattle.beyond.proofs.Beyond.distance.Goals as goal

pub returns-then-in_bounds : goal.returns-then-in_bounds
unfolding beyond_end
returns-then-in_bounds c =
    let end1 = val c.args.self.claim.end1 in
    let below = ltb-true end1 bound (sym c.in_bounds.ensures ∙ c.if-in_bounds.true) in
    rw (lt-leb bound end1 below) c.minus_bound.ensures

pub returns-else-in_bounds : goal.returns-else-in_bounds
unfolding beyond_end
returns-else-in_bounds c =
    let end1 = val c.args.self.claim.end1 in
    let above = ltb-false end1 bound (sym c.in_bounds.ensures ∙ c.if-in_bounds.false) in
    rw (le-leb bound end1 above) c.minus_bound-else-in_bounds.ensures
