-- `account::put_lines` meets its contract: `put_next` and `counted_next` give one row more.
use lib.ListN.{length}
use mathlib.Core.Path.{◌≡◌, sym, ◌∙◌, ap}
use native.Mathlib.Omega.{arith}
use Rattle.model.proofs.TableOf.{length-table}
use Rattle.count.proofs.CountLaws.{counts-none, room, counted_next}
use Rattle.account.proofs.ReportLaws.{put-none, put_next}
use Rattle.account.proofs.put_lines.Goals as goal

pub loop-i-init : goal.loop-i-init
loop-i-init c =
    let d = c.default-counts.ensures in (
      c.clear.ensures ∙ put-none _,
      omega (arith, ap length c.clear.ensures),
      (λ i. record { instructions = d.0 i; oob = d.1.0 i; empty = d.1.1 i }) ∙ sym (counts-none _),
    )

pub of_row-requires : goal.of_row-requires
of_row-requires c = omega arith

pub put_start-requires : goal.put_start-requires
put_start-requires c = omega (arith, c.loop-i.invariant.1)

pub count_row-counts-requires-clause-instructions_lt_max_rows : goal.count_row-counts-requires-clause-instructions_lt_max_rows
count_row-counts-requires-clause-instructions_lt_max_rows c = (room _ c.loop-i.i c.loop-i.counts (omega arith) c.loop-i.invariant.2).instructions

pub count_row-counts-requires-clause-oob_lt_max_rows : goal.count_row-counts-requires-clause-oob_lt_max_rows
count_row-counts-requires-clause-oob_lt_max_rows c = (room _ c.loop-i.i c.loop-i.counts (omega arith) c.loop-i.invariant.2).oob

pub count_row-counts-requires-clause-empty_lt_max_rows : goal.count_row-counts-requires-clause-empty_lt_max_rows
count_row-counts-requires-clause-empty_lt_max_rows c = (room _ c.loop-i.i c.loop-i.counts (omega arith) c.loop-i.invariant.2).empty

pub loop-i-preserved : goal.loop-i-preserved
loop-i-preserved c =
    let l = c.loop-i in
    let read = c.read-x.ensures ∙ c.of_row.ensures in
    (put_next _ _ _ read l.invariant.0 c.put_start.ensures.put, omega (arith, l.invariant.1, c.put_start.ensures.upper_bound), counted_next _ _ _ _ _ l.invariant.2 read c.count_row-counts.ensures)

pub returns : goal.returns
returns c =
    let l = c.loop-i in
    let all : l.i ≡ c.args.rows = omega arith in
    record { put = rw all at l.invariant.0; room = rw (length-table, ← all) l.invariant.1; counted = rw all at l.invariant.2 }
