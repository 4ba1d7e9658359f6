-- `list::line::read_head` meets its contract: cn and then op. Eight digits spell a number of 32 bits, two a byte.
use mathlib.Core.List.{[], ◌∷◌}
use mathlib.Core.Path.{sym, ◌∙◌}
use borrow.Author.Rules.{rules}
use Rattle.form.specs.Read.{got}
use Rattle.form.proofs.StepLaws.{on_got}
use Rattle.list.specs.Line.{cn_field, op_field, read_two}
use Rattle.list.proofs.PartLaws.{field_half}
use Rattle.list.proofs.line.read_head.Goals as goal

pub overflow_cast-result : goal.overflow_cast-result
overflow_cast-result c = record { fits = (field_half cn_field _ _ c.in_ok-cn.cn.value (sym c.in_ok-cn.ensures) (search rules)).1 }

pub overflow_cast-result-2 : goal.overflow_cast-result-2
overflow_cast-result-2 c = record { fits = (field_half op_field _ _ c.in_ok-op.op.value (sym c.in_ok-op.ensures) (search rules)).1 }

pub returns : goal.returns
unfolding read_two
returns c =
    let cn = (field_half cn_field _ _ c.in_ok-cn.cn.value (sym c.in_ok-cn.ensures) (search rules)).0 in
    let op = (field_half op_field _ _ c.in_ok-op.op.value (sym c.in_ok-op.ensures) (search rules)).0 in
    (λ i. got (cn i ∷ op i ∷ []) c.in_ok-op.op.next) ∙ on_got _ c.in_ok-op.ensures ∙ on_got _ c.in_ok-cn.ensures
