-- `filler::fill` meets its contract: the two refusals before the list is read, then that of its first reading (`outcome_refused`), and else the
-- trace of the lines that were counted (`measured_lists`, `outcome_lists`).
use mathlib.Core.Path.{◌≡◌, refl, sym, ◌∙◌, ap}
use borrow.Author.Rules.{rules}
use lib.ListN.{length}
use Rattle.std.specs.Prelude.{Err}
use Rattle.filler.proofs.FillLaws.{outcome-long, outcome-none, outcome_refused, outcome_lists, measured_lists}
use Rattle.filler.proofs.fill.Goals as goal

pub returns-then-list-gt-MAX_LIST : goal.returns-then-list-gt-MAX_LIST
returns-then-list-gt-MAX_LIST c =
    let a = c.args in
    let e = outcome-long a.list.now a.empty (length a.buf.now) c.if-list-gt-MAX_LIST.true in
    record { value = rw e refl; buf_after = rw e }

pub returns-then-empty-eq0 : goal.returns-then-empty-eq0
returns-then-empty-eq0 c =
    let a = c.args in
    let e = outcome-none a.list.now a.empty (length a.buf.now) (search rules) (search rules) in
    record { value = rw e refl; buf_after = rw e }

pub returns-in_err-rows : goal.returns-in_err-rows
returns-in_err-rows c =
    let a = c.args in
    let e = outcome_refused a.list.now a.empty (length a.buf.now) (search rules) (search rules) (sym c.count_rows.ensures ∙ c.in_err-rows.was) in
    let made : c.from_residual.result ≡ Err c.in_err-rows.field-0.0 = search rules in
    record { value = rw e.2 (made ∙ ap Err e.3); buf_after = rw e.2 }

pub fill_rows-requires : goal.fill_rows-requires
fill_rows-requires c =
    -- the text is a list, and its cycles have the rows that were counted
    let counted = measured_lists _ (sym c.count_rows.ensures ∙ c.in_ok-rows.was) in
    record { list_len_bound = search rules; lists = counted.0; rows_value = counted.1; empty_nonzero = search rules }

pub returns : goal.returns
returns c =
    let counted = measured_lists _ (sym c.count_rows.ensures ∙ c.in_ok-rows.was) in
    let a = c.args in
    let e = outcome_lists a.list.now a.empty (length a.buf.now) (search rules) (search rules) counted.0 in
    rw e c.fill_rows.ensures
