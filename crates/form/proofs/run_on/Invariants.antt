-- `form::run_on` meets its contract. The invariant: the run goes on from here as the whole of it (`Running`), and what was read leaves room for the digits
-- that may come.
use Prim.Native.Nat.{◌+◌, ◌-◌, ◌^◌, ◌<◌}
use Rattle.form.proofs.RunLaws.{Running}
use Rattle.form.proofs.run_on.Given as goal

abbrev pub invariant-loop-at : goal.invariant-loop-at
invariant-loop-at g l =
    Running l.t l.most (g.N.Spelled.value l.fn.start) l.p (g.N.Spelled.value l.value) l.at
    × (g.N.Spelled.value l.value < 16 ^ (g.N.Spelled.most + 1 - (l.p + l.most - l.at)))
