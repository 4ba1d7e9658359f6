-- `cycle::Cycle::put` meets its contract: the last CT, and so the room that is asked for, goes by whether the claim is in bounds (`last_of_lem`), and so do
-- the rows (`cycle_of_lem`).
use Rattle.std.specs.Prelude.{true, false}
use Rattle.std.proofs.Common.{arith, sym, ◌∙◌}
use Rattle.state.specs.Plain.{state}
use Rattle.claim.specs.Told.{plain_claim}
use Rattle.beyond.proofs.TableLaws.{cycle_of_lem}
use Rattle.cycle.proofs.CycleLaws.{last_of_lem}
use Rattle.cycle.proofs.Cycle.put.Goals as goal

pub put_rows-requires-clause-row_bytes_in_bounds : goal.put_rows-requires-clause-row_bytes_in_bounds
put_rows-requires-clause-row_bytes_in_bounds c =
    omega (arith, rw (last_of_lem (plain_claim c.args.self.claim) true (sym c.is_within.ensures ∙ c.if-is_within.true)) at c.requires)

pub put-requires : goal.put-requires
put-requires c = rw (last_of_lem (plain_claim c.args.self.claim) false (sym c.is_within.ensures ∙ c.if-is_within.false)) at c.requires

pub returns-then-is_within : goal.returns-then-is_within
returns-then-is_within c =
    let x = c.args.self in
    rw (cycle_of_lem x.stamp (state x.before) (plain_claim x.claim) true (sym c.is_within.ensures ∙ c.if-is_within.true))
    (rw c.of.ensures at c.put_rows.ensures)
