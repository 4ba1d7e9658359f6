-- `cycle::Cycle::stands` meets its contract: the last CT goes by whether the claim is in bounds (`last_of_lem`), and so do the rows (`stands_by`).
use Rattle.std.specs.Prelude.{true, false}
use Rattle.std.proofs.Common.{arith, sym, ◌∙◌}
use Rattle.model.specs.Columns.{row_at}
use Rattle.compare.proofs.SameLaws.{stands_by}
use Rattle.state.specs.Plain.{state}
use Rattle.claim.specs.Told.{plain_claim}
use Rattle.cycle.proofs.CycleLaws.{last_of_lem}
use Rattle.cycle.proofs.Cycle.stands.Goals as goal

pub rows_are-requires-clause-row_bytes_in_bounds : goal.rows_are-requires-clause-row_bytes_in_bounds
rows_are-requires-clause-row_bytes_in_bounds c =
    omega (arith, rw (last_of_lem (plain_claim c.args.self.claim) true (sym c.is_within.ensures ∙ c.if-is_within.true)) at c.requires)

pub stands-requires : goal.stands-requires
stands-requires c = rw (last_of_lem (plain_claim c.args.self.claim) false (sym c.is_within.ensures ∙ c.if-is_within.false)) at c.requires

pub returns-then-is_within : goal.returns-then-is_within
returns-then-is_within c =
    let a = c.args in
    let x = a.self in
    let within = sym c.is_within.ensures ∙ c.if-is_within.true in
    rw c.of.ensures at c.rows_are.ensures ∙ stands_by (row_at a.t.now) a.row x.stamp (state x.before) (plain_claim x.claim) true within

pub returns-else-is_within : goal.returns-else-is_within
returns-else-is_within c =
    let made = c.beyond.ensures in
    rw (made.stamp, made.before, made.claim) at c.stands.ensures
