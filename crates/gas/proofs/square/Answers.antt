-- `gas::square` meets its contract: the product of two numbers of 32 bits has 64.
use mathlib.Core.Path.{refl}
use Rattle.gas.proofs.GasLaws.{square_fits}
use Rattle.gas.proofs.square.Goals as goal

pub overflow_mul-result : goal.overflow_mul-result
overflow_mul-result c = record { fits = square_fits c.requires }

pub returns : goal.returns
returns c = (refl, square_fits c.requires)
