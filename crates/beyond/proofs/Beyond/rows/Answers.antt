-- `beyond::Beyond::rows` meets its contract: at first no digit of the distance has gone off (`shift_none`).
use Rattle.std.proofs.Common.{arith}
use Rattle.number.proofs.WholeLaws.{val-lt}
use Rattle.model.specs.Constraints.{out_last}
use Rattle.beyond.proofs.ShiftLaws.{shift_none}
use Rattle.beyond.proofs.Beyond.rows.Goals as goal

pub returns-clause-first : goal.returns-clause-first
returns-clause-first c =
    let distance = c.distance in
    let fits = val-lt distance.result (omega arith) (omega arith) (omega arith) in
    rw (c.default.ensures, distance.ensures) (shift_none out_last _ (rw distance.ensures at fits))
