-- Cells that fit three bytes.
use Rattle.std.specs.Prelude.{◌^◌, ◌<◌}
use Rattle.model.specs.Columns.{Cells}

-- the cells of three bytes that are compared with a neighbour fit them
pub record Narrow (x : Cells) : Type 0 where
  pub memn : x.memn < 256 ^ 3
  pub dacc : x.dacc < 256 ^ 3
  pub endmax : x.endmax < 256 ^ 3
  pub eacc : x.eacc < 256 ^ 3
  pub q1 : x.q1 < 256 ^ 3
  pub q1acc : x.q1acc < 256 ^ 3
  pub q2acc : x.q2acc < 256 ^ 3
