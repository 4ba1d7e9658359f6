-- `gas::cost_of` meets its contract, by that of `square`.
use borrow.Author.Rules.{rules}
use Rattle.gas.specs.Gas.{cost}
use Rattle.gas.proofs.cost_of.Goals as goal

pub returns : goal.returns
unfolding cost
returns c = search rules
