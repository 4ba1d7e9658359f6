-- `count::count_row` counts one more row, number by number: a test as a number is its bit.
use mathlib.Core.Bool.{not-not}
use Rattle.model.specs.Constraints.{in_use}
use Rattle.words.proofs.WordLaws.{from_bool_bit}
use Rattle.count.proofs.count_row.Goals as goal

pub returns : goal.returns
unfolding in_use
returns c =
    simp (c.from.ensures, c.from-2.ensures, c.from-3.ensures, c.starts_cycle-starts.ensures, from_bool_bit, not-not)
