-- The three parts of the model's row make it, and cells that are read by their places within a row are the cells of the model's row.
use Prim.Native.Nat.{ℕ, ◌+◌, ◌*◌}
use mathlib.Core.List.{List, [], ◌∷◌}
use mathlib.Core.Path.{◌≡◌, refl, ◌∙◌, ap}
use native.Mathlib.Nat.{add_assoc, add-zero}
use Rattle.number.specs.Cells.{decode}
use Rattle.model.specs.Columns.{Cells, widths, row_bytes, of_list, row_at}
use Rattle.row.specs.Places.{cells_from, from, HeadAt, BodyAt, TailAt}
use Rattle.row.specs.Plain.{plain, HeadOf, BodyOf, TailOf}
use Rattle.row.specs.declared.cells.Body.{Body}
use Rattle.row.specs.declared.cells.Head.{Head}
use Rattle.row.specs.declared.cells.Tail.{Tail}

-- three parts of a row make it
pub parts_make : (y : Cells) (h : Head) (b : Body) (t : Tail) → HeadOf y h → BodyOf y b → TailOf y t → plain (record { head = h; body = b; tail = t }) ≡ y
parts_make y h b t in_head in_body in_tail = λ j. record {
  stamp = in_head.stamp j;
  cn = in_head.cn j;
  ooob = in_head.ooob j;
  ct = in_head.ct j;
  end1 = in_head.end1 j;
  end2 = in_head.end2 j;
  byte1 = in_head.byte1 j;
  byte2 = in_head.byte2 j;
  acc1 = in_head.acc1 j;
  acc2 = in_head.acc2 j;
  mem = in_body.mem j;
  memn = in_body.memn j;
  cost = in_body.cost j;
  costn = in_body.costn j;
  gas = in_body.gas j;
  comp = in_body.comp j;
  dbyte = in_body.dbyte j;
  dacc = in_body.dacc j;
  endmax = in_body.endmax j;
  flag = in_body.flag j;
  ebyte = in_tail.ebyte j;
  eacc = in_tail.eacc j;
  q1 = in_tail.q1 j;
  q1byte = in_tail.q1byte j;
  q1acc = in_tail.q1acc j;
  q2 = in_tail.q2 j;
  q2byte = in_tail.q2byte j;
  q2acc = in_tail.q2acc j;
  aux1 = in_tail.aux1 j;
  aux2 = in_tail.aux2 j;
}

-- cells by their places are cells one after the other
cells_from_lem : (ws l : List ℕ) (p o : ℕ) → cells_from ws l p o ≡ decode ws l (p + o)
unfolding decode
cells_from_lem [] l p o = refl
cells_from_lem (w ∷ ws) l p o = rw (cells_from_lem ws l p (o + w), add_assoc)

-- the row whose first byte is that of row i is row i
pub from_row : (l : List ℕ) (i : ℕ) → from l (i * row_bytes) ≡ row_at l i
unfolding row_at
from_row l i = ap of_list (cells_from_lem widths l (i * row_bytes) 0 ∙ ap (decode widths l) (add-zero (i * row_bytes)))

-- three parts that are read by their places make the row
pub row_of_parts : (l : List ℕ) (i : ℕ) (h : Head) (b : Body) (t : Tail)
    → HeadAt l (i * row_bytes) h → BodyAt l (i * row_bytes) b → TailAt l (i * row_bytes) t
    → plain (record { head = h; body = b; tail = t }) ≡ row_at l i
row_of_parts l i h b t in_head in_body in_tail = parts_make (from l (i * row_bytes)) h b t in_head in_body in_tail ∙ from_row l i
