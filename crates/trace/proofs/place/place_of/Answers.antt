-- `trace::place::place_of` meets its contract: a trace that is not let in is refused so (`refused_if_not_admitted`); in an accepted one the instruction
-- stands at the row after those before it (`where_next`), or is none that was counted (`where_not_counted`).
use Prim.Native.Nat.{suc, ◌-◌}
use mathlib.Core.Path.{◌≡◌, sym, ◌∙◌, ap}
use native.Mathlib.Omega.{arith}
use Rattle.std.specs.Prelude.{Ok, Err}
use Rattle.std.proofs.lemmas.Result.{err_from_is_err_and}
use Rattle.model.specs.Columns.{rows_of}
use Rattle.model.specs.Cycles.{cycle_rows, next_row}
use Rattle.model.proofs.InstructionLaws.{next_there}
use Rattle.trace.specs.Asked.{where_is}
use Rattle.trace.specs.Told.{told_place}
use Rattle.trace.proofs.AdmitLaws.{accepted_if_admitted, refused_if_not_admitted, instructions_told}
use Rattle.trace.proofs.PlaceLaws.{among, where_not_counted, where_next}
use Rattle.trace.proofs.place.place_of.Goals as goal

pub returns-in_err-counts : goal.returns-in_err-counts
unfolding where_is
returns-in_err-counts c =
    let e = refused_if_not_admitted _ (sym c.in_err-counts.ensures) in
    let p = err_from_is_err_and c.from_residual.result c.from_residual.ensures.1 in
    rw (p.1, p.2) (ap Err e.1 ∙ sym (ap told_place (e.2 _)))

pub returns-then-not-is_among : goal.returns-then-not-is_among
returns-then-not-is_among c =
    let known = accepted_if_admitted _ (λ i h. omega (arith, c.type_inv.t i)) (sym c.in_ok-counts.ensures) in
    sym (ap told_place (where_not_counted _ known.0 _ _ (instructions_told _ known.1) (sym c.is_among.ensures ∙ c.if-not-is_among.true)))

pub overflow_sub-k : goal.overflow_sub-k
overflow_sub-k c =
    let here = among _ (λ i h. omega (arith, c.type_inv.t i)) c.in_ok-counts.ensures _ (sym c.is_among.ensures ∙ c.if-not-is_among.false) in
    here.some

pub row_after-first-requires : goal.row_after-first-requires
row_after-first-requires c =
    let here = among _ (λ i h. omega (arith, c.type_inv.t i)) c.in_ok-counts.ensures _ (sym c.is_among.ensures ∙ c.if-not-is_among.false) in
    record { accepted = here.accepted; empty_value = here.empty; passed_in_bounds = omega (arith, here.some, here.few) }

pub of_row-requires : goal.of_row-requires
of_row-requires c =
    let here = among _ (λ i h. omega (arith, c.type_inv.t i)) c.in_ok-counts.ensures _ (sym c.is_among.ensures ∙ c.if-not-is_among.false) in
    rw c.row_after-first.ensures (next_there _ here.accepted (c.args.k - 1) (omega (arith, here.some, here.few)))

pub returns : goal.returns
returns c =
    let here = among _ (λ i h. omega (arith, c.type_inv.t i)) c.in_ok-counts.ensures _ (sym c.is_among.ensures ∙ c.if-not-is_among.false) in
    let first : c.row_after-first.result ≡ next_row (rows_of c.args.t.now) (c.args.k - 1) = c.row_after-first.ensures in
    let more : suc (c.args.k - 1) ≡ c.args.k = omega (arith, here.some) in
    let stands = rw (more, ← first) at (where_next c.args.t.now here.accepted (c.args.k - 1) (omega (arith, here.some, here.few))) in
    ap (λ rows. Ok (record { first = c.row_after-first.result; rows = rows })) (c.cycle_rows-rows.ensures ∙ ap cycle_rows c.of_row.ensures) ∙ sym (ap told_place stands)
