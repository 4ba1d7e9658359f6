-- `checker::cycles::with_cycle` counts the cycle, and counts it as out of bounds where it has so many rows (`long_out`).
use Rattle.claim.specs.Told.{plain_claim}
use Rattle.checker.proofs.CycleLaws.{long_out}
use Rattle.checker.proofs.cycles.with_cycle.Goals as goal

pub returns : goal.returns
returns c = rw (c.from.ensures, c.rows_of.ensures, long_out (plain_claim c.args.claim))
