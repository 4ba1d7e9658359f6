-- `checker::judge::verdict_from`: before row i the rows below it meet all constraints and are counted.
use mathlib.Core.Path.{◌≡◌}
use Rattle.model.specs.Columns.{row_at, table}
use Rattle.model.specs.Cycles.{counts}
use Rattle.model.specs.Verdict.{broken_at, judged, meet}
use Rattle.count.specs.Counts.{plain_counts}
use Rattle.checker.proofs.judge.verdict_from.Given as goal

abbrev pub invariant-loop-i : goal.invariant-loop-i
invariant-loop-i l = record {
  meets : judged (broken_at (row_at l.rows.bytes.now) l.rows.count) l.i ≡ meet;
  counted : plain_counts l.c ≡ counts (table l.i (row_at l.rows.bytes.now));
}
