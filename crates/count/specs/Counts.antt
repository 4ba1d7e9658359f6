-- The counts of a trace in code and in the model, and one row more counted.
use Rattle.std.specs.Prelude.{◌+◌, not, ◌&&◌, eqb}
use Rattle.model.specs.Columns.{Cells}
use Rattle.model.specs.Constraints.{in_use}
use Rattle.model.specs.Cycles as model
use Rattle.model.specs.Tests.{bit}
use Rattle.count.specs.declared.Counts.{Counts}

-- the counts, as the model has them
abbrev pub plain_counts : Counts → model.Counts
plain_counts c = record { instructions = c.instructions; oob = c.oob; empty = c.empty }

-- the counts once a row was counted: an instruction where a cycle starts, an empty row where STAMP is 0
abbrev pub counted : model.Counts → Cells → model.Counts
counted c x = record {
  instructions = c.instructions + bit (model.starts x);
  oob = c.oob + bit (model.starts x && eqb x.ooob 1);
  empty = c.empty + bit (not (in_use x));
}

-- the counts that tell those of the model
abbrev pub told_counts : model.Counts → Counts
told_counts c = record { instructions = c.instructions; oob = c.oob; empty = c.empty }
