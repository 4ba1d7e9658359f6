-- `lines::count_rows` meets its contract. The invariant: the reading is one of this list, and it passed the lines read (`Passing`), none of which is written. Every
-- line ends further on, so what is left of the text falls.
use Prim.Native.Nat.{◌-◌}
use mathlib.Core.Bool.{false}
use mathlib.Core.List.{[]}
use mathlib.Core.Path.{◌≡◌}
use lib.ListN.{length}
use Rattle.recent.specs.Notes.{nothing_noted}
use Rattle.lines.proofs.PassLaws.{Passing}
use Rattle.lines.proofs.count_rows.Given as goal

abbrev pub invariant-loop-claim : goal.invariant-loop-claim
invariant-loop-claim l = record {
  same : l.claims.list.now ≡ l.list;
  passing : Passing false l.list [] [] nothing_noted 0 l.claims.at l.rows l.claims.lines;
}

abbrev pub decreases-loop-claim : goal.decreases-loop-claim
decreases-loop-claim l = length l.list - l.claims.at
