-- `lines::put_empty` meets its contract: the bytes of empty rows are zeros.
use Prim.Native.Nat.{◌*◌}
use Rattle.model.proofs.RowBytes.{empty_bytes}
use Rattle.lines.proofs.WriteLaws.{zeros_put}
use Rattle.lines.proofs.put_empty.Goals as goal

pub returns : goal.returns
returns c =
    rw (c.fill.ensures.after (λ y e. e), empty_bytes c.args.rows) (zeros_put c.args.buf.now (c.args.rows * 114) c.requires)
