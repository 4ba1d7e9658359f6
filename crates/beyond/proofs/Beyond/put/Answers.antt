-- `beyond::Beyond::put` meets its contract: a claim out of bounds has the cycle of its out-of-bounds rows (`cycle_of_lem`).
use Rattle.std.specs.Prelude.{false}
use Rattle.state.specs.Plain.{state}
use Rattle.claim.specs.Told.{plain_claim}
use Rattle.beyond.proofs.TableLaws.{cycle_of_lem}
use Rattle.beyond.proofs.Beyond.put.Goals as goal

pub returns : goal.returns
returns c =
    let x = c.args.self in
    rw (cycle_of_lem x.stamp (state x.before) (plain_claim x.claim) false x.out) (rw c.rows.ensures.cycle at c.put_rows.ensures)
