-- `checker::cycles::verdict_on`: before row i the rows are empty ones and whole cycles (`Walked`). The rows that are left fall. Where the next cycle does not
-- stand the rest is judged row by row; past the last row, all meet the constraints (`told_accepted`).
use Prim.Native.Nat.{◌+◌, ◌≤◌, ◌<◌}
use mathlib.Core.Path.{sym, ◌∙◌, ap}
use native.Mathlib.Omega.{arith}
use Rattle.number.proofs.WholeLaws.{val-lt}
use Rattle.claim.specs.Told.{plain_claim}
use Rattle.count.proofs.CountLaws.{counts-none}
use Rattle.recent.specs.Notes.{no_span, noted}
use Rattle.recent.proofs.NoteLaws.{noted_in_lem}
use Rattle.checker.proofs.RowLaws.{meets_first, told_accepted}
use Rattle.model.proofs.JoinLaws.{last_le}
use Rattle.checker.proofs.CycleLaws.{walked-first, walked_few, recalls_sound, next_fits, walked_next}
use Rattle.checker.proofs.cycles.verdict_on.Goals as goal

pub verdict_from-requires : goal.verdict_from-requires
verdict_from-requires c =
    record { from_within = omega arith; meets = meets_first _ _; counted_value = rw c.if-empty-eq0.true (sym (counts-none _)) }

pub returns-then-empty-eq0 : goal.returns-then-empty-eq0
returns-then-empty-eq0 c = c.verdict_from.ensures

pub loop-i-init : goal.loop-i-init
loop-i-init c =
    let found = c.empty_rows-empty in
    let some : 0 < found.result = omega arith in
    rw (found.ensures, c.new-recent.ensures) (walked-first _ _ no_span (rw found.ensures at some))

pub overflow_add-end : goal.overflow_add-end
overflow_add-end c = omega (arith, c.rows_of.ensures, last_le (plain_claim c.claim_in-claim.result))

pub cycle_stands-requires : goal.cycle_stands-requires
cycle_stands-requires c =
    let l = c.loop-i in
    record { i_within = l.invariant.within; cycles_lt_max_rows = omega (arith, walked_few l.invariant); noted_in = noted_in_lem l.invariant.known _ l.invariant.ready.some (omega (arith, l.invariant.within, c.args.rows.there)); sound = recalls_sound l.invariant _ }

pub verdict_from-requires-then-not-cycle_stands : goal.verdict_from-requires-then-not-cycle_stands
verdict_from-requires-then-not-cycle_stands c =
    let l = c.loop-i in
    record { from_within = l.invariant.within; meets = l.invariant.ready.meets; counted_value = l.invariant.counted }

pub returns-then-not-cycle_stands : goal.returns-then-not-cycle_stands
returns-then-not-cycle_stands c = c.verdict_from-then-not-cycle_stands.ensures

pub with_cycle-c-requires : goal.with_cycle-c-requires
with_cycle-c-requires c =
    let l = c.loop-i in
    record { instructions_lt_max_rows = omega (arith, walked_few l.invariant); oob_lt_max_rows = omega (arith, walked_few l.invariant) }

pub overflow_sub-end : goal.overflow_sub-end
overflow_sub-end c =
    let l = c.loop-i in
    omega (arith, l.invariant.ready.some)

pub note-requires : goal.note-requires
note-requires c =
    let stands = sym c.cycle_stands.ensures ∙ c.if-not-cycle_stands.false in
    let fits : c.loop-i.i + c.rows_of.result ≤ c.args.rows.count = rw c.rows_of.ensures (next_fits c.loop-i.invariant _ stands) in
    omega (arith, fits, c.loop-i.invariant.ready.some, c.args.rows.few)

pub loop-i-smaller : goal.loop-i-smaller
loop-i-smaller c =
    let stands = sym c.cycle_stands.ensures ∙ c.if-not-cycle_stands.false in
    let fits : c.loop-i.i + c.rows_of.result ≤ c.args.rows.count = rw c.rows_of.ensures (next_fits c.loop-i.invariant _ stands) in
    omega (arith, fits, c.rows_of.ensures)

pub loop-i-preserved : goal.loop-i-preserved
loop-i-preserved c =
    let held = c.claim_in-claim.result in
    let ok = c.claim_in-claim.type_inv in
    let l = c.loop-i in
    let d = plain_claim held in
    let stands = sym c.cycle_stands.ensures ∙ c.if-not-cycle_stands.false in
    walked_next l.invariant d stands (omega (arith, ok))
    (val-lt held.end1 (omega (arith, ok)) (omega (arith, ok)) (omega (arith, ok)))
    (val-lt held.end2 (omega (arith, ok)) (omega (arith, ok)) (omega (arith, ok)))
    (c.note.ensures ∙ ap (noted l.recent d.context) (omega (arith, c.rows_of.ensures)))
    c.with_cycle-c.ensures (omega (arith, c.rows_of.ensures))

pub returns : goal.returns
returns c =
    let l = c.loop-i in
    told_accepted _ _ _ l.i (omega (arith, l.invariant.within)) l.invariant.ready.meets l.invariant.counted
