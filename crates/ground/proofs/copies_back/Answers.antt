-- `ground::copies_back` meets its contract: the cells written are the bytes read (`cells_over`), so the comparison finds them equal.
use mathlib.Core.Path.{◌∙◌, refl}
use native.Mathlib.Omega.{arith}
use Rattle.ground.proofs.AgreeLaws.{cells_over}
use Rattle.ground.proofs.copies_back.Goals as goal

pub returns : goal.returns
returns c = c.same.ensures.1 (c.copy_cells.ensures ∙ cells_over _ c.args.v.now 0 (λ i h. c.fits-v i) (omega (arith, c.told-v)) refl)
