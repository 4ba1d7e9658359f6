-- `form::stands` meets its contract: eight characters are there or not, and their number is compared as it stands.
use Prim.Native.Nat.{◌+◌}
use native.Mathlib.Nat.{one-le-pow}
use native.Mathlib.Omega.{arith}
use borrow.Author.Tests.{le-leb, lt-leb}
use lib.ListN.{length}
use Rattle.form.proofs.NameLaws.{bound_is}
use Rattle.form.proofs.stands.Goals as goal

pub returns-then-t-p : goal.returns-then-t-p
returns-then-t-p c =
    let a = c.args in
    rw (lt-leb (a.p + 8) (length a.t.now) (omega arith))

pub returns-then-t-p-lt8 : goal.returns-then-t-p-lt8
returns-then-t-p-lt8 c =
    let a = c.args in
    rw (lt-leb (a.p + 8) (length a.t.now) (omega arith))

pub nonzero_rem-result : goal.nonzero_rem-result
nonzero_rem-result c =
    let name = c.args.name in
    rw (bound_is (length name.text.now) name.short) (one-le-pow (length name.text.now) 256 (omega arith))

pub returns : goal.returns
returns c =
    let a = c.args in
    rw (bound_is (length a.name.text.now) a.name.short, le-leb (a.p + 8) (length a.t.now) (omega arith), ← c.low64_at.ensures)
