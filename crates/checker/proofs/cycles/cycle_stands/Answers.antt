-- `checker::cycles::cycle_stands` answers by its three tests: where the first or the second fails the answer is false (`no_context`, `no_room`), and past them
-- the comparison decides (`compared`).
use native.Mathlib.Omega.{arith}
use Rattle.checker.proofs.CycleLaws.{no_context, no_room, compared}
use Rattle.checker.proofs.cycles.cycle_stands.Goals as goal

pub returns-then-c-eq0 : goal.returns-then-c-eq0
returns-then-c-eq0 c = no_context _ _ _ _ _ _ c.if-c-eq0.true

pub returns-then-rows-i : goal.returns-then-rows-i
returns-then-rows-i c = no_room _ _ _ _ _ _ (omega (arith, c.rows_of.ensures))

pub invariant_of-cycle : goal.invariant_of-cycle
invariant_of-cycle c = record { sound = rw c.recall.ensures c.requires.sound }

pub stands-requires : goal.stands-requires
stands-requires c = omega (arith, c.rows_of.ensures, c.args.rows.there)

pub returns : goal.returns
returns c =
    compared _ _ _ _ _ _ c.if-c-eq0.false (omega (arith, c.rows_of.ensures)) (omega arith) c.recall.ensures c.stands.ensures
