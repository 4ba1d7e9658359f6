-- `cell::read::wide_at` meets its contract: the three parts are those of the number in 17 bytes (`val-num`).
use Rattle.number.proofs.WholeLaws.{val-num}
use Rattle.cell.proofs.read.wide_at.Goals as goal

pub returns : goal.returns
returns c =
    let a = c.args in
    val-num a.t.now a.p _ c.u8_at.ensures c.u64_at.ensures c.u64_at-2.ensures
