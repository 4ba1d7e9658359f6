-- `lines::put_cycles` meets its contract: one turn is `passing_writes` of `filling_next`. At the end of the list the cycles of all its lines are written
-- (`passing_end`), and a list with a line that is refused is not to be written (`passing_refused`).
use mathlib.Core.Bool.{true}
use mathlib.Core.Path.{◌≡◌, refl, sym, ◌∙◌, ap}
use native.Mathlib.Omega.{arith}
use borrow.Author.Rules.{rules}
use Rattle.std.specs.Prelude.{None, Ok}
use Rattle.list.specs.List.{next_line}
use Rattle.lines.specs.Reading.{place_after, lines_after}
use Rattle.lines.proofs.WriteLaws.{Turn, turn_further, turn_counted, turn_writable, filling_next}
use Rattle.lines.proofs.PassLaws.{passing_first, passing_writes, passing_end, passing_refused}
use Rattle.lines.proofs.put_cycles.Goals as goal

pub loop-claim-init : goal.loop-claim-init
loop-claim-init c =
    let first = c.of-claims.ensures in
    record {
      same = first.list;
      counted = sym first.lines;
      passing = rw (first.at, first.lines, c.new-recent.ensures) (passing_first true c.args.list.now c.args.buf.now c.args.first);
    }

pub put_claim-requires : goal.put_claim-requires
put_claim-requires c =
    let l = c.loop-claim in
    let i = l.invariant in
    let turn : Turn c.args.list.now c.args.buf.now l.buf l.recent c.args.first l.claims.at l.row l.claims.lines c.in-Ok-Some.claim = record {
      writable = c.requires.writable;
      filling = i.passing.filling refl;
      told = rw i.same at (sym c.next.ensures.value ∙ c.in-Ok-Some.is ∙ ap Ok c.in-Ok-Some.field-0-is);
    } in
    rw i.counted (turn_writable turn)

pub overflow_add-row : goal.overflow_add-row
overflow_add-row c =
    let l = c.loop-claim in
    let i = l.invariant in
    let turn : Turn c.args.list.now c.args.buf.now l.buf l.recent c.args.first l.claims.at l.row l.claims.lines c.in-Ok-Some.claim = record {
      writable = c.requires.writable;
      filling = i.passing.filling refl;
      told = rw i.same at (sym c.next.ensures.value ∙ c.in-Ok-Some.is ∙ ap Ok c.in-Ok-Some.field-0-is);
    } in
    omega (arith, (turn_writable turn).few, c.rows_of-row.ensures)

pub loop-claim-smaller : goal.loop-claim-smaller
loop-claim-smaller c =
    let l = c.loop-claim in
    let i = l.invariant in
    let turn : Turn c.args.list.now c.args.buf.now l.buf l.recent c.args.first l.claims.at l.row l.claims.lines c.in-Ok-Some.claim = record {
      writable = c.requires.writable;
      filling = i.passing.filling refl;
      told = rw i.same at (sym c.next.ensures.value ∙ c.in-Ok-Some.is ∙ ap Ok c.in-Ok-Some.field-0-is);
    } in
    let further = turn_further turn in
    let place : c.next.new.self.at ≡ place_after l.claims.at (next_line c.args.list.now l.claims.at) = rw i.same at c.next.ensures.at in
    omega arith

pub loop-claim-preserved : goal.loop-claim-preserved
loop-claim-preserved c =
    let l = c.loop-claim in
    let i = l.invariant in
    let turn : Turn c.args.list.now c.args.buf.now l.buf l.recent c.args.first l.claims.at l.row l.claims.lines c.in-Ok-Some.claim = record {
      writable = c.requires.writable;
      filling = i.passing.filling refl;
      told = rw i.same at (sym c.next.ensures.value ∙ c.in-Ok-Some.is ∙ ap Ok c.in-Ok-Some.field-0-is);
    } in
    let next = c.next.ensures in
    let lines : c.next.new.self.lines ≡ lines_after l.claims.lines (next_line c.args.list.now l.claims.at) = rw i.same at next.lines in
    let filled = filling_next turn c.rows_of-row.ensures (rw i.counted at c.put_claim.ensures.buf_after) c.put_claim.ensures.recent_after in
    record {
      same = next.list ∙ i.same;
      counted = omega (arith, turn_counted turn);
      passing = rw (next.at, next.lines, i.same) (passing_writes filled);
    }

pub returns-in_default : goal.returns-in_default
returns-in_default c =
    let i = c.loop-claim.invariant in
    let none : c.next.result ≡ Ok None = search rules in
    passing_end i.passing (λ e. c.requires.writable) _ (rw i.same at (sym c.next.ensures.value ∙ none))

pub returns-in_default-2 : goal.returns-in_default-2
returns-in_default-2 c =
    let i = c.loop-claim.invariant in
    passing_refused i.passing (λ e. c.requires.writable) _ (rw i.same at (sym c.next.ensures.value ∙ c.in_default.is))
