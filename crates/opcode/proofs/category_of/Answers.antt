-- `opcode::category_of` meets its contract: that the table is right is computed.
use mathlib.Core.Path.{refl, ◌∙◌, ap}
use Rattle.opcode.specs.Opcodes.{category_of, number_of}
use Rattle.opcode.specs.declared.TheConstants.{TABLE}
use Rattle.opcode.proofs.TableLaws.{right}
use Rattle.opcode.proofs.category_of.Goals as goal

pub returns : goal.returns
unfolding category_of
returns c = ap number_of c.category_in.ensures ∙ (right TABLE tt tt tt refl tt).rule c.args.op
