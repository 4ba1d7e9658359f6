-- `beyond::Beyond::stands` meets its contract: the cycle of a claim out of bounds stands where its out-of-bounds rows do (`stands_by`).
use Rattle.std.specs.Prelude.{false}
use Rattle.std.proofs.Common.{◌∙◌}
use Rattle.model.specs.Columns.{row_at}
use Rattle.compare.proofs.SameLaws.{stands_by}
use Rattle.state.specs.Plain.{state}
use Rattle.claim.specs.Told.{plain_claim}
use Rattle.beyond.proofs.Beyond.stands.Goals as goal

pub returns : goal.returns
returns c =
    let a = c.args in
    let x = a.self in
    rw c.rows.ensures.cycle at c.rows_are.ensures ∙ stands_by (row_at a.t.now) a.row x.stamp (state x.before) (plain_claim x.claim) false x.out
