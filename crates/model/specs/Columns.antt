-- The row: thirty columns, said once with their widths; and the rows of a byte string.
use Rattle.std.specs.Prelude.{ℕ, zero, suc, ◌*◌, ◌/◌, List, [], ◌∷◌, ◌++◌, map, length, get_or}
use Rattle.number.specs.Cells.{total, encode, decode}

-- a row as thirty whole numbers
pub record Cells : Type 0 where
  pub stamp : ℕ
  pub cn : ℕ
  pub ooob : ℕ
  pub ct : ℕ
  pub end1 : ℕ
  pub end2 : ℕ
  pub byte1 : ℕ
  pub byte2 : ℕ
  pub acc1 : ℕ
  pub acc2 : ℕ
  pub mem : ℕ
  pub memn : ℕ
  pub cost : ℕ
  pub costn : ℕ
  pub gas : ℕ
  pub comp : ℕ
  pub dbyte : ℕ
  pub dacc : ℕ
  pub endmax : ℕ
  pub flag : ℕ
  pub ebyte : ℕ
  pub eacc : ℕ
  pub q1 : ℕ
  pub q1byte : ℕ
  pub q1acc : ℕ
  pub q2 : ℕ
  pub q2byte : ℕ
  pub q2acc : ℕ
  pub aux1 : ℕ
  pub aux2 : ℕ

-- a column: the bytes of its cells, and its cell in a row
pub record Column : Type 0 where
  pub width : ℕ
  pub cell : Cells → ℕ

-- a column by its width and its cell
abbrev column : ℕ → (Cells → ℕ) → Column
column w f = record { width = w; cell = f }

-- the columns in their order, with their widths: from STAMP to GAS, and every one from COMP on
abbrev pub up_to_gas : List Column
up_to_gas =
    column 4 (λ x. x.stamp) ∷ column 4 (λ x. x.cn) ∷ column 1 (λ x. x.ooob) ∷ column 1 (λ x. x.ct)
    ∷ column 17 (λ x. x.end1) ∷ column 17 (λ x. x.end2)
    ∷ column 1 (λ x. x.byte1) ∷ column 1 (λ x. x.byte2) ∷ column 17 (λ x. x.acc1) ∷ column 3 (λ x. x.acc2)
    ∷ column 3 (λ x. x.mem) ∷ column 3 (λ x. x.memn) ∷ column 4 (λ x. x.cost) ∷ column 4 (λ x. x.costn) ∷ column 4 (λ x. x.gas) ∷ []

-- every one from COMP on
abbrev pub from_comp : List Column
from_comp =
    column 1 (λ x. x.comp) ∷ column 1 (λ x. x.dbyte) ∷ column 3 (λ x. x.dacc) ∷ column 3 (λ x. x.endmax) ∷ column 1 (λ x. x.flag)
    ∷ column 1 (λ x. x.ebyte) ∷ column 3 (λ x. x.eacc)
    ∷ column 3 (λ x. x.q1) ∷ column 1 (λ x. x.q1byte) ∷ column 3 (λ x. x.q1acc)
    ∷ column 4 (λ x. x.q2) ∷ column 1 (λ x. x.q2byte) ∷ column 3 (λ x. x.q2acc)
    ∷ column 1 (λ x. x.aux1) ∷ column 1 (λ x. x.aux2) ∷ []

-- 114 bytes, big-endian, in this order
abbrev pub columns : List Column
columns = up_to_gas ++ from_comp

-- the cells of a row in some columns, in their order
abbrev pub cells_in : List Column → Cells → List ℕ
cells_in cs x = map (λ (c : Column). c.cell x) cs

-- their widths
abbrev pub widths : List ℕ
widths = map (λ (c : Column). c.width) columns

-- the bytes of a row
abbrev pub row_bytes : ℕ
row_bytes = total widths

-- the row with these cells, in the order of the columns; a number that is missing is 0
abbrev pub of_list : List ℕ → Cells
of_list l = record {
  stamp = get_or l 0 0;
  cn = get_or l 1 0;
  ooob = get_or l 2 0;
  ct = get_or l 3 0;
  end1 = get_or l 4 0;
  end2 = get_or l 5 0;
  byte1 = get_or l 6 0;
  byte2 = get_or l 7 0;
  acc1 = get_or l 8 0;
  acc2 = get_or l 9 0;
  mem = get_or l 10 0;
  memn = get_or l 11 0;
  cost = get_or l 12 0;
  costn = get_or l 13 0;
  gas = get_or l 14 0;
  comp = get_or l 15 0;
  dbyte = get_or l 16 0;
  dacc = get_or l 17 0;
  endmax = get_or l 18 0;
  flag = get_or l 19 0;
  ebyte = get_or l 20 0;
  eacc = get_or l 21 0;
  q1 = get_or l 22 0;
  q1byte = get_or l 23 0;
  q1acc = get_or l 24 0;
  q2 = get_or l 25 0;
  q2byte = get_or l 26 0;
  q2acc = get_or l 27 0;
  aux1 = get_or l 28 0;
  aux2 = get_or l 29 0;
}

-- the row whose every cell is 0
abbrev pub empty_row : Cells
empty_row = of_list []

-- row i of a list of rows; outside of it, the row of zeros
abbrev pub row_in : List Cells → ℕ → Cells
row_in rows i = get_or rows i empty_row

-- row i of a byte string
unfoldable pub row_at : List ℕ → ℕ → Cells
row_at l i = of_list (decode widths l (i * row_bytes))

-- the list of f 0 .. f (n - 1)
unfoldable pub table : {A : Type 0} → ℕ → (ℕ → A) → List A
table zero f = []
table (suc n) f = f 0 ∷ table n (λ i. f (suc i))

-- the whole rows of a byte string
unfoldable pub rows_of : List ℕ → List Cells
rows_of l = table (length l / row_bytes) (row_at l)

-- the bytes of rows
unfoldable pub bytes_of : List Cells → List ℕ
bytes_of [] = []
bytes_of (x ∷ xs) = encode widths (cells_in columns x) ++ bytes_of xs
