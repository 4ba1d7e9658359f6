-- `filler::fill_rows` meets its contract: a trace with too many rows is refused (`too_many`), then one that the buffer is too short for
-- (`too_short`); any other is stored, its empty rows first (`empty_stored`, `filled_buffer`).
use Prim.Native.Nat.{◌+◌}
use mathlib.Core.List.{List}
use mathlib.Core.Path.{◌≡◌, refl, sym, ap}
use native.Mathlib.Omega.{arith}
use borrow.Author.Rules.{rules}
use lib.ListN.{length}
use Rattle.model.specs.Cycles.{Claim}
use Rattle.model.specs.Trace.{trace}
use Rattle.model.proofs.JoinLaws.{length-trace}
use Rattle.lines.specs.Lines.{list_claims}
use Rattle.std.specs.Prelude.{Ok}
use Rattle.filler.proofs.FillLaws.{too_many, too_short, there_is_room, empty_stored, filled_buffer}
use Rattle.filler.proofs.fill_rows.Goals as goal

pub returns-then-rows_left-empty : goal.returns-then-rows_left-empty
returns-then-rows_left-empty c =
    let a = c.args in
    let e = too_many (length a.buf.now) a.empty a.rows (list_claims a.list.now) c.requires.rows_value c.requires.empty_nonzero (search rules) in
    record { value = rw e refl; buf_after = rw e }

pub returns-then-buf-all : goal.returns-then-buf-all
returns-then-buf-all c =
    let a = c.args in
    let e = too_short (length a.buf.now) a.empty a.rows (list_claims a.list.now) c.requires.rows_value c.requires.empty_nonzero (search rules) (search rules) in
    record { value = rw e refl; buf_after = rw e }

pub put_empty-requires : goal.put_empty-requires
put_empty-requires c = omega arith

pub put_cycles-requires : goal.put_cycles-requires
put_cycles-requires c =
    let a = c.args in
    let rows = c.requires.rows_value in record {
      list_len_bound = c.requires.list_len_bound;
      writable = record {
        lists = c.requires.lists;
        some = c.requires.empty_nonzero;
        empty = empty_stored a.buf.now a.empty (omega arith) c.put_empty.ensures;
        few = omega (arith, rows);
        room = omega (arith, rows);
      };
    }

pub returns : goal.returns
returns c =
    let a = c.args in
    let cs : List Claim = list_claims a.list.now in
    let e = there_is_room (length a.buf.now) a.empty a.rows cs c.requires.rows_value c.requires.empty_nonzero (search rules) (search rules) in
    let rows : length (trace a.empty cs) ≡ a.empty + a.rows = rw c.requires.rows_value (length-trace a.empty cs) in
    record { value = rw e (ap Ok (sym rows)); buf_after = rw e (filled_buffer a.buf.now a.empty cs (omega arith) c.put_empty.ensures c.put_cycles.ensures) }
