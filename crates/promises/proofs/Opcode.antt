-- No second answer meets the contract of `opcode`.
use mathlib.Core.Path.{refl, sym, ◌∙◌, ap}
use Rattle.opcode.specs.Opcodes.{category_of}
use Rattle.opcode.proofs.TableLaws.{told_category, told_number}
use Rattle.promises.proofs.NoSecond.{NoSecond, no_second, given, answer}
use Rattle.opcode.proofs.category_of.Reads as category-of

-- the category of an opcode
pub one_category_of : NoSecond category-of.Post given answer
one_category_of =
    no_second (λ a. told_category (category_of a.0)) (λ κ a v e p. sym (told_number v) ∙ ap told_category p) (λ a b. refl)
