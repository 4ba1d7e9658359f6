-- `cell::write::put_wide` meets its contract: `sets_then` joins the three runs, and `be-val` says that they are the 17 bytes.
use mathlib.Core.List.{◌++◌}
use mathlib.Core.Path.{◌∙◌, sym, ap}
use native.Mathlib.Omega.{arith}
use lib.Seq.{sets}
use Rattle.number.specs.Num.{be}
use Rattle.number.proofs.StoreLaws.{sets_then}
use Rattle.number.proofs.WholeLaws.{be-val}
use Rattle.cell.proofs.write.put_wide.Goals as goal

pub returns : goal.returns
returns c =
    let a = c.args in
    c.put_u64-2.ensures
    ∙ sets_then _ _ 8 a.v.hi (be 8 a.v.lo) c.put_u64.ensures
    ∙ sets_then a.buf.now a.at 1 a.v.top (be 8 a.v.hi ++ be 8 a.v.lo) c.put_u8.ensures
    ∙ ap (sets a.buf.now a.at) (sym (be-val a.v (omega (arith, c)) (omega (arith, c))))
