-- `row::read::head_of` meets its contract: each cell at its place is the model's.
use Rattle.row.proofs.read.head_of.Goals as goal

pub returns : goal.returns
returns c = record {
  stamp = c.u32_at.ensures;
  cn = c.u32_at-2.ensures;
  ooob = c.u8_at.ensures;
  ct = c.u8_at-2.ensures;
  end1 = c.wide_at.ensures;
  end2 = c.wide_at-2.ensures;
  byte1 = c.u8_at-3.ensures;
  byte2 = c.u8_at-4.ensures;
  acc1 = c.wide_at-3.ensures;
  acc2 = c.u24_at.ensures;
}
