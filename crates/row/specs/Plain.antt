-- The code's row as the thirty whole numbers that the model speaks of.
use Rattle.std.specs.Prelude.{◌≡◌}
use Rattle.number.specs.Whole.{val}
use Rattle.model.specs.Columns.{Cells}
use Rattle.row.specs.declared.cells.Body.{Body}
use Rattle.row.specs.declared.cells.Head.{Head}
use Rattle.row.specs.declared.cells.Row.{Row}
use Rattle.row.specs.declared.cells.Tail.{Tail}

-- the cells of a row, as whole numbers
abbrev pub plain : Row → Cells
plain x = record {
  stamp = x.head.stamp;
  cn = x.head.cn;
  ooob = x.head.ooob;
  ct = x.head.ct;
  end1 = val x.head.end1;
  end2 = val x.head.end2;
  byte1 = x.head.byte1;
  byte2 = x.head.byte2;
  acc1 = val x.head.acc1;
  acc2 = x.head.acc2;
  mem = x.body.mem;
  memn = x.body.memn;
  cost = x.body.cost;
  costn = x.body.costn;
  gas = x.body.gas;
  comp = x.body.comp;
  dbyte = x.body.dbyte;
  dacc = x.body.dacc;
  endmax = x.body.endmax;
  flag = x.body.flag;
  ebyte = x.tail.ebyte;
  eacc = x.tail.eacc;
  q1 = x.tail.q1;
  q1byte = x.tail.q1byte;
  q1acc = x.tail.q1acc;
  q2 = x.tail.q2;
  q2byte = x.tail.q2byte;
  q2acc = x.tail.q2acc;
  aux1 = x.tail.aux1;
  aux2 = x.tail.aux2;
}

-- x is that part of the row y
pub record HeadOf (y : Cells) (x : Head) : Type 0 where
  pub stamp : x.stamp ≡ y.stamp
  pub cn : x.cn ≡ y.cn
  pub ooob : x.ooob ≡ y.ooob
  pub ct : x.ct ≡ y.ct
  pub end1 : val x.end1 ≡ y.end1
  pub end2 : val x.end2 ≡ y.end2
  pub byte1 : x.byte1 ≡ y.byte1
  pub byte2 : x.byte2 ≡ y.byte2
  pub acc1 : val x.acc1 ≡ y.acc1
  pub acc2 : x.acc2 ≡ y.acc2

-- x is that part of the row y
pub record BodyOf (y : Cells) (x : Body) : Type 0 where
  pub mem : x.mem ≡ y.mem
  pub memn : x.memn ≡ y.memn
  pub cost : x.cost ≡ y.cost
  pub costn : x.costn ≡ y.costn
  pub gas : x.gas ≡ y.gas
  pub comp : x.comp ≡ y.comp
  pub dbyte : x.dbyte ≡ y.dbyte
  pub dacc : x.dacc ≡ y.dacc
  pub endmax : x.endmax ≡ y.endmax
  pub flag : x.flag ≡ y.flag

-- x is that part of the row y
pub record TailOf (y : Cells) (x : Tail) : Type 0 where
  pub ebyte : x.ebyte ≡ y.ebyte
  pub eacc : x.eacc ≡ y.eacc
  pub q1 : x.q1 ≡ y.q1
  pub q1byte : x.q1byte ≡ y.q1byte
  pub q1acc : x.q1acc ≡ y.q1acc
  pub q2 : x.q2 ≡ y.q2
  pub q2byte : x.q2byte ≡ y.q2byte
  pub q2acc : x.q2acc ≡ y.q2acc
  pub aux1 : x.aux1 ≡ y.aux1
  pub aux2 : x.aux2 ≡ y.aux2
