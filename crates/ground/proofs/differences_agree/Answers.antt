-- `ground::differences_agree` meets its contract: the numbers read, and the differences of them, are those that the definitions name.
use Rattle.ground.specs.Agree.{differences_agree}
use Rattle.ground.proofs.differences_agree.Goals as goal

pub returns : goal.returns
unfolding differences_agree
returns c = cc
