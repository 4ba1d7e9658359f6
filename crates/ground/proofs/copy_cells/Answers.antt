-- `ground::copy_cells` meets its contract: `sets_then` joins the four runs, and `four_cells` says that they are the cells read.
use mathlib.Core.List.{◌++◌}
use mathlib.Core.Path.{◌≡◌, ◌∙◌, ap}
use lib.Seq.{sets}
use Rattle.ground.specs.Agree.{widths}
use Rattle.number.specs.Cells.{encode, decode}
use Rattle.number.specs.Num.{be}
use Rattle.number.specs.Whole.{val}
use Rattle.ground.proofs.AgreeLaws.{four_cells}
use Rattle.number.proofs.StoreLaws.{sets_then}
use Rattle.ground.proofs.copy_cells.Goals as goal

pub returns : goal.returns
returns c =
    let a = c.args in
    let x = c.u8_at.result in
    let y = c.u24_at.result in
    let z = c.u32_at.result in
    let w = val c.wide_at.result in
    let same : be 1 x ++ (be 3 y ++ (be 4 z ++ be 17 w)) ≡ encode widths (decode widths a.v.now 0) = cc (four_cells a.v.now 0) in
    c.put_wide.ensures
    ∙ sets_then _ 4 4 z (be 17 w) c.put_u32.ensures
    ∙ sets_then _ 1 3 y (be 4 z ++ be 17 w) c.put_u24.ensures
    ∙ sets_then a.out.now 0 1 x (be 3 y ++ (be 4 z ++ be 17 w)) c.put_u8.ensures
    ∙ ap (sets a.out.now 0) same
