-- `write::put_u32` meets its contract: std's bytes of the number are its bytes (`be_high`).
use mathlib.Core.Path.{◌∙◌, ap}
use lib.Seq.{sets}
use Rattle.cell.proofs.WriteLaws.{be_high}
use Rattle.cell.proofs.write.put_u32.Goals as goal

pub returns : goal.returns
returns c = c.store.ensures ∙ ap (sets c.args.buf.now c.args.at) (c.to_be_bytes.ensures ∙ be_high 4 c.args.v)
