-- `Recent::recall` meets its contract by the cases of `recalled`. A noted row stands in the bytes, and so do the rows before it.
use Prim.Native.Nat.{ℕ}
use mathlib.Core.Path.{sym, ◌∙◌, ap, ap₂}
use native.Mathlib.Omega.{arith}
use borrow.Author.Tests.{ne_eqb}
use Rattle.model.specs.Columns.{Cells, row_at}
use Rattle.model.specs.Cycles.{Looked}
use Rattle.state.specs.Look.{look_back}
use Rattle.state.specs.Plain.{context}
use Rattle.recent.specs.Notes.{slot_of}
use Rattle.recent.proofs.Recent.recall.Goals as goal

pub returns-then-is_outside : goal.returns-then-is_outside
returns-then-is_outside c = rw (← c.self.view_is, sym c.is_outside.ensures ∙ c.if-is_outside.true) cc

pub returns-in_default : goal.returns-in_default
returns-in_default c =
    let none = rw (← c.self.view_is) at c.in_default.ensures in
    rw (← c.self.view_is, sym c.is_outside.ensures ∙ c.if-is_outside.false, none) cc

pub of_row-noted-requires : goal.of_row-noted-requires
of_row-noted-requires c =
    let there = c.requires (slot_of (context c.args.x)) (omega arith) in
    rw (← c.in-Some.ensures.1) at there

pub returns-then-is_of : goal.returns-then-is_of
returns-then-is_of c =
    let row = rw (← c.self.view_is) at c.in-Some.ensures in
    rw (← c.self.view_is, sym c.is_outside.ensures ∙ c.if-is_outside.false, ← row.1, ne_eqb _ 0 row.0, ← c.of_row-noted.ensures, sym c.is_of.ensures ∙ c.if-is_of.true) c.of_row.ensures

pub returns : goal.returns
returns c =
    let a = c.args in
    let row = rw (← c.self.view_is) at c.in-Some.ensures in
    let cycles = c.stamp-cycles.ensures ∙ ap (λ (r : Cells). r.stamp) c.of_row-noted.ensures in
    rw (← c.self.view_is, sym c.is_outside.ensures ∙ c.if-is_outside.false, ← row.1, ne_eqb _ 0 row.0, ← c.of_row-noted.ensures, sym c.is_of.ensures ∙ c.if-is_of.false)
    (ap (λ (b : Looked). b.state) c.state_before.ensures
    ∙ ap₂ (λ (limit to : ℕ). (look_back (row_at a.t.now) (context a.x) limit to).state) cycles (omega arith))
