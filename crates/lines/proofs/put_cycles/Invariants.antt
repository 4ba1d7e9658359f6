-- `lines::put_cycles` meets its contract. The invariant: the reading is one of this list, and it passed the lines read (`Passing`), whose cycles are written, up to
-- a row. Every line ends further on, so what is left of the text falls.
use Prim.Native.Nat.{◌-◌}
use mathlib.Core.Bool.{true}
use mathlib.Core.Path.{◌≡◌}
use lib.ListN.{length}
use Rattle.lines.proofs.PassLaws.{Passing}
use Rattle.lines.proofs.put_cycles.Given as goal

abbrev pub invariant-loop-claim : goal.invariant-loop-claim
invariant-loop-claim l = record {
  same : l.claims.list.now ≡ l.list;
  counted : l.cycles ≡ l.claims.lines;
  passing : Passing true l.list l.initial.buf l.buf l.recent l.first l.claims.at l.row l.claims.lines;
}

abbrev pub decreases-loop-claim : goal.decreases-loop-claim
decreases-loop-claim l = length l.list - l.claims.at
