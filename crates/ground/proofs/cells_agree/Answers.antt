-- `ground::cells_agree` meets its contract: the comparison holds, so what is left is that of the two numbers.
use Rattle.ground.specs.Agree.{cells_agree}
use Rattle.ground.proofs.cells_agree.Goals as goal

pub returns : goal.returns
unfolding cells_agree
returns c = cc
