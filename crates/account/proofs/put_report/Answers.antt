-- `account::put_report` meets its contract: too long an input gets the line of refusal 1; any other what the filler's answer gives, the lines of the rows written or the
-- line of the refusal.
use Prim.Native.Nat.{ℕ, ◌*◌}
use mathlib.Core.List.{List}
use borrow.Author.Rules.{rules}
use lib.ListN.{replicate, length-replicate}
use Rattle.model.specs.Columns.{row_bytes}
use Rattle.account.specs.Report.{room_rows}
use Rattle.account.proofs.ReportLaws.{done-long, written-report, refused_report}
use Rattle.account.proofs.put_report.Goals as goal

-- the room for the trace before the filler is called
abbrev room : List ℕ
room = replicate (room_rows * row_bytes) 0

pub returns-then-input-gt-ACCOUNT_BYTES : goal.returns-then-input-gt-ACCOUNT_BYTES
returns-then-input-gt-ACCOUNT_BYTES c =
    rw (done-long _ c.if-input-gt-ACCOUNT_BYTES.true) c.put_refused.ensures

-- where the filler has written rows

pub put_account-requires : goal.put_account-requires
put_account-requires c =
    let f = c.fill.ensures in
    let there =
    written-report c.args.input.now room f.value (search rules) (length-replicate {A = ℕ} (room_rows * row_bytes) 0) c.in-Ok.is f.buf_after in
    record { row_bytes_in_bounds = there.room; rows_le_room_rows = there.rows }

pub returns-in-Ok : goal.returns-in-Ok
returns-in-Ok c =
    let f = c.fill.ensures in
    let there =
    written-report c.args.input.now room f.value (search rules) (length-replicate {A = ℕ} (room_rows * row_bytes) 0) c.in-Ok.is f.buf_after in
    rw there.text at c.put_account.ensures

-- where it refuses
pub returns-in-Err : goal.returns-in-Err
returns-in-Err c =
    rw
    (refused_report c.args.input.now room c.fill.ensures.value (search rules) (length-replicate {A = ℕ} (room_rows * row_bytes) 0) c.in-Err.is) at
    c.put_refused-in-Err.ensures
