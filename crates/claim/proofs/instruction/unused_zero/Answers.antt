-- `claim::instruction::unused_zero` meets its contract: it makes the same tests.
use mathlib.Core.Path.{refl}
use Rattle.claim.specs.Instruction.{unused_zero}
use Rattle.claim.proofs.instruction.unused_zero.Goals as goal

pub returns : goal.returns
unfolding unused_zero
returns c = rw (c.is_zero-4.ensures, c.is_zero-3.ensures, c.is_zero-2.ensures, c.is_zero.ensures) refl
