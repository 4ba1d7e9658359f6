-- `Long::is_zero` meets its contract: a number is 0 where both halves are.
use Rattle.long.proofs.LongLaws.{eqb-whole}
use Rattle.long.proofs.Long.is_zero.Goals as goal

pub returns : goal.returns
returns c = rw (c.eq.ensures, c.default.ensures.0, c.default.ensures.1) (eqb-whole c.args.self)
