-- `checker::judge::verdict_from`: a row that breaks a constraint ends the judgement (`one_named`); past the last, all meet (`told_accepted`).
use mathlib.Core.Path.{◌∙◌}
use native.Mathlib.Omega.{arith}
use Rattle.count.proofs.CountLaws.{room, counted_next}
use Rattle.checker.proofs.RowLaws.{none_named, one_named, told_accepted}
use Rattle.checker.proofs.judge.verdict_from.Goals as goal

pub returns-in-Some : goal.returns-in-Some
returns-in-Some c = one_named _ _ _ c.loop-i.invariant.meets _ (omega arith) c.in-Some.ensures

pub count_row-c-requires : goal.count_row-c-requires
count_row-c-requires c =
    let r = room _ _ c.loop-i.c (omega arith) c.loop-i.invariant.counted in
    record { instructions_lt_max_rows = r.instructions; oob_lt_max_rows = r.oob; empty_lt_max_rows = r.empty }

pub loop-i-preserved : goal.loop-i-preserved
loop-i-preserved c = record {
  meets = none_named _ _ _ c.loop-i.invariant.meets c.in_default.ensures;
  counted = counted_next _ _ _ _ _ c.loop-i.invariant.counted (c.read.ensures ∙ c.row.ensures) c.count_row-c.ensures;
}

pub returns : goal.returns
returns c = told_accepted _ _ _ _ (omega arith) c.loop-i.invariant.meets c.loop-i.invariant.counted
