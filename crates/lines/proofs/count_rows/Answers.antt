-- `lines::count_rows` meets its contract: one turn is `passing_next`, with what `counted_next` says of the line; at the end of the list the rows are those of all
-- its lines (`counted_end`), and the first line that is refused refuses the list (`counted_refused`).
use Prim.Native.Nat.{◌+◌}
use mathlib.Core.Bool.{false, false≢true}
use mathlib.Core.List.{[]}
use mathlib.Core.Path.{◌≡◌, refl, sym, ◌∙◌, ap}
use native.Mathlib.Omega.{arith}
use borrow.Author.Rules.{rules}
use Rattle.std.specs.Prelude.{None, Some, Ok, Err}
use Rattle.list.specs.List.{next_line}
use Rattle.lines.specs.Reading.{told_claimed, place_after}
use Rattle.lines.proofs.CountLaws.{More, counted_end, counted_refused, counted_next}
use Rattle.lines.proofs.PassLaws.{passing_first, passing_next, passing_counted, more_counted}
use Rattle.lines.proofs.count_rows.Goals as goal

pub loop-claim-init : goal.loop-claim-init
loop-claim-init c =
    let first = c.of-claims.ensures in
    record { same = first.list; passing = rw (first.at, first.lines) (passing_first false c.args.list.now [] 0) }

pub returns-in_err-claim : goal.returns-in_err-claim
returns-in_err-claim c =
    let l = c.loop-claim in
    let told = rw l.invariant.same at (sym c.next.ensures.value ∙ c.in_err-claim.was) in
    let made : c.from_residual.result ≡ Err c.in_err-claim.field-0.0 = search rules in
    made ∙ counted_refused (passing_counted l.invariant.passing) told

pub overflow_add-rows : goal.overflow_add-rows
overflow_add-rows c =
    let l = c.loop-claim in
    let told : told_claimed (l.claims.lines + 1) (next_line c.args.list.now l.claims.at) ≡ Ok (Some c.in-Some.claim) =
    rw l.invariant.same at (sym c.next.ensures.value ∙ c.in_ok-claim.was ∙ ap Ok c.in-Some.is) in
    let more : More c.args.list.now l.claims.at l.claims.lines l.rows (next_line c.args.list.now l.claims.at) c.rows_of-rows.result =
    counted_next (passing_counted l.invariant.passing) _ _ _ told c.rows_of-rows.ensures in
    let k = passing_counted l.invariant.passing in
    omega (arith, more.small, k.few, k.reached.ahead, k.reached.inside, c.requires)

pub loop-claim-smaller : goal.loop-claim-smaller
loop-claim-smaller c =
    let l = c.loop-claim in
    let told : told_claimed (l.claims.lines + 1) (next_line c.args.list.now l.claims.at) ≡ Ok (Some c.in-Some.claim) =
    rw l.invariant.same at (sym c.next.ensures.value ∙ c.in_ok-claim.was ∙ ap Ok c.in-Some.is) in
    let more : More c.args.list.now l.claims.at l.claims.lines l.rows (next_line c.args.list.now l.claims.at) c.rows_of-rows.result =
    counted_next (passing_counted l.invariant.passing) _ _ _ told c.rows_of-rows.ensures in
    let place : c.next.new.self.at ≡ place_after l.claims.at (next_line c.args.list.now l.claims.at) = rw l.invariant.same at c.next.ensures.at in
    omega (arith, more.further, more.counted.reached.inside)

pub loop-claim-preserved : goal.loop-claim-preserved
loop-claim-preserved c =
    let l = c.loop-claim in
    let told : told_claimed (l.claims.lines + 1) (next_line c.args.list.now l.claims.at) ≡ Ok (Some c.in-Some.claim) =
    rw l.invariant.same at (sym c.next.ensures.value ∙ c.in_ok-claim.was ∙ ap Ok c.in-Some.is) in
    let more : More c.args.list.now l.claims.at l.claims.lines l.rows (next_line c.args.list.now l.claims.at) c.rows_of-rows.result =
    counted_next (passing_counted l.invariant.passing) _ _ _ told c.rows_of-rows.ensures in
    let next = c.next.ensures in
    let passed = passing_next l.invariant.passing (more_counted more) (λ e. absurd (false≢true e)) (λ e. refl) in
    record { same = next.list ∙ l.invariant.same; passing = rw (next.at, next.lines, l.invariant.same) passed }

pub returns : goal.returns
returns c =
    let l = c.loop-claim in
    let none : c.next.result ≡ Ok None = c.in_ok-claim.was ∙ search rules in
    counted_end (passing_counted l.invariant.passing) _ (rw l.invariant.same at (sym c.next.ensures.value ∙ none))
