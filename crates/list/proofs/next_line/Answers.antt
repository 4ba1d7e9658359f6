-- `list::next_line` meets its contract: the form of the line first, then what its fields say. The two refusals are answered here, so that a wrong place is
-- refused for what it says; the other goals the check finds by the lemmas that the function names.
use native.Mathlib.Omega.{arith}
use borrow.Author.Tests.{lt-leb}
use lib.ListN.{length}
use Rattle.list.specs.List.{next_line}
use Rattle.list.proofs.PartLaws.{refused_next}
use Rattle.list.proofs.next_line.Goals as goal

pub returns-in-Err : goal.returns-in-Err
unfolding next_line
returns-in-Err c =
    let a = c.args in
    rw (lt-leb (length a.t.now) a.p (omega arith), ← c.in-Err.ensures)

pub returns-in-Err-decode_fields : goal.returns-in-Err-decode_fields
unfolding next_line
returns-in-Err-decode_fields c =
    let a = c.args in
    rw (lt-leb (length a.t.now) a.p (omega arith), ← c.in-Ok.ensures) (refused_next a.number _ _ c.in-Err-decode_fields.ensures)
