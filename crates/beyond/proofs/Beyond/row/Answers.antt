-- `beyond::Beyond::row` meets its contract: a sound state has paid what fits 4 bytes (`paid_lt`).
use Rattle.std.proofs.Common.{arith}
use Rattle.model.proofs.FitLaws.{paid_lt}
use Rattle.beyond.proofs.Beyond.row.Goals as goal

pub overflow_cast-cost : goal.overflow_cast-cost
overflow_cast-cost c = omega (arith, paid_lt c.args.self.sound)
