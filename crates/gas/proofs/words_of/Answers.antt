-- `gas::words_of` meets its contract: the whole words, and one more where bytes are left over.
use native.Mathlib.Omega.{arith}
use Rattle.gas.specs.Gas.{words}
use Rattle.gas.proofs.words_of.Goals as goal

pub returns : goal.returns
unfolding words
returns c = omega (arith, c.div_ceil.ensures)
