-- `rules::first::constraints_met` meets its contract: each test in the list is put for what it says.
use Rattle.rules.proofs.first.constraints_met.Goals as goal

pub returns : goal.returns
returns c = cc
