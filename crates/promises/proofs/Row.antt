-- No second answer meets the contracts of `row`.
use mathlib.Core.Path.{refl}
use denote.Param.Laws.{Laws, IsCopy}
use denote.RattleType.{RattleType}
use mir.Syntax.{Dict}
use Rattle.std.specs.declared.clone.Clone as Clone
use Rattle.row.specs.declared.group.Group as Group
use Rattle.number.specs.Whole.{val}
use Rattle.model.specs.Columns.{row_at}
use Rattle.row.specs.Plain.{plain}
use Rattle.row.specs.declared.three.Three.{Three}
use Rattle.promises.proofs.NoSecond.{NoSecond, no_second, equation, given, shared, answer, by}
use Rattle.row.proofs.group.U8Group.width.Reads as width-one
use Rattle.row.proofs.group.U8Group.behind.Reads as behind-one
use Rattle.row.proofs.group.ThreeGroup.width.Reads as width-three
use Rattle.row.proofs.group.ThreeGroup.behind.Reads as behind-three
use Rattle.row.proofs.group.U32Group.width.Reads as width-four
use Rattle.row.proofs.group.U32Group.behind.Reads as behind-four
use Rattle.row.proofs.group.Tuple2Group.width.Reads as width-two
use Rattle.row.proofs.group.Tuple2Group.behind.Reads as behind-two
use Rattle.row.proofs.three.Three.new.Reads as new
use Rattle.row.proofs.three.Three.last_of.Reads as last-of
use Rattle.row.proofs.view.RowBytes.of_row.Reads as of-row
use Rattle.row.proofs.view.RowBytes.read.Reads as read-cells
use Rattle.row.proofs.view.RowBytes.bytes.Reads as bytes-of
use Rattle.row.proofs.view.RowBytes.stamp.Reads as stamp-of
use Rattle.row.proofs.view.RowBytes.cn.Reads as cn-of
use Rattle.row.proofs.view.RowBytes.ooob.Reads as ooob-of
use Rattle.row.proofs.view.RowBytes.ct.Reads as ct-of
use Rattle.row.proofs.view.RowBytes.end1.Reads as end1-of
use Rattle.row.proofs.view.RowBytes.end2.Reads as end2-of
use Rattle.row.proofs.view.RowBytes.memn.Reads as memn-of
use Rattle.row.proofs.view.RowBytes.costn.Reads as costn-of

-- numbers of three bytes, told by their value
pub one_new : NoSecond new.Post given (by (λ (t : Three). t.value))
one_new = equation (λ a b. refl)

pub one_last_of : NoSecond last-of.Post given (by (λ (t : Three). t.value))
one_last_of = equation (λ a b. refl)

-- a row of a trace, told by its thirty cells
pub one_of_row : NoSecond of-row.Post (shared given) answer
one_of_row = equation (λ a b. refl)

-- its cells by value, its bytes, and single cells
pub one_read : NoSecond read-cells.Post (shared given) (by plain)
one_read = equation (λ a b. refl)

pub one_bytes : NoSecond bytes-of.Post (shared given) (by (λ x. row_at x.now 0))
one_bytes = equation (λ a b. refl)

pub one_stamp : NoSecond stamp-of.Post (shared given) answer
one_stamp = equation (λ a b. refl)

pub one_cn : NoSecond cn-of.Post (shared given) answer
one_cn = equation (λ a b. refl)

pub one_ooob : NoSecond ooob-of.Post (shared given) answer
one_ooob = equation (λ a b. refl)

pub one_ct : NoSecond ct-of.Post (shared given) answer
one_ct = equation (λ a b. refl)

pub one_end1 : NoSecond end1-of.Post (shared given) (by val)
one_end1 = equation (λ a b. refl)

pub one_end2 : NoSecond end2-of.Post (shared given) (by val)
one_end2 = equation (λ a b. refl)

pub one_memn : NoSecond memn-of.Post (shared given) answer
one_memn = equation (λ a b. refl)

pub one_costn : NoSecond costn-of.Post (shared given) answer
one_costn = equation (λ a b. refl)

-- cells side by side: how many bytes they have, and the number that they make behind another; of one byte, three and four
pub one_width_one : NoSecond width-one.Post given answer
one_width_one = equation (λ a b. refl)

pub one_behind_one : NoSecond behind-one.Post given answer
one_behind_one = no_second _ (λ κ a v e p. p.0) (λ a b. refl)

pub one_width_three : NoSecond width-three.Post given answer
one_width_three = equation (λ a b. refl)

pub one_behind_three : NoSecond behind-three.Post given answer
one_behind_three = no_second _ (λ κ a v e p. p.0) (λ a b. refl)

pub one_width_four : NoSecond width-four.Post given answer
one_width_four = equation (λ a b. refl)

pub one_behind_four : NoSecond behind-four.Post given answer
one_behind_four = no_second _ (λ κ a v e p. p.0) (λ a b. refl)

-- and two of these
module _ (A B : RattleType) (l : Laws A) (m : Laws B) (c : IsCopy A) (d : IsCopy B) (g : Group.Ghosts A.Denot) (e : Dict) (h : Clone.Ghosts A.Denot) (f : Dict)
    (i : Group.Ghosts B.Denot) (j : Dict) (k : Clone.Ghosts B.Denot) (o : Dict) where
  pub one_width_two : NoSecond (width-two.Post A B l m c d g e h f i j k o) given answer
  one_width_two = equation (λ a b. refl)

  pub one_behind_two : NoSecond (behind-two.Post A B l m c d g e h f i j k o) given answer
  one_behind_two = no_second _ (λ κ a v e p. p.0) (λ a b. refl)
