-- `ground::costs_agree` meets its contract: the numbers read, and words and cost of them, are those that the definitions name.
use Rattle.ground.specs.Agree.{costs_agree}
use Rattle.ground.proofs.costs_agree.Goals as goal

pub returns : goal.returns
unfolding costs_agree
returns c = cc
