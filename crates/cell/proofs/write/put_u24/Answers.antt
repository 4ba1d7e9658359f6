-- `write::put_u24` meets its contract: two bytes and then one (`sets_cut`).
use Rattle.number.proofs.StoreLaws.{sets_cut}
use Rattle.cell.proofs.WriteLaws.{be-two}
use Rattle.cell.proofs.write.put_u24.Goals as goal

pub returns : goal.returns
returns c =
    let a = c.args in
    sets_cut a.buf.now a.at 2 1 a.v (rw be-two at c.put_u16.ensures) c.put_u8.ensures
