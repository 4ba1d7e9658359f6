-- `cycle::within::Made::tail` meets its contract: cell by cell, by what the numbers of the cycle are. Q2 fits 4 bytes (`square-lt`), so that its
-- first byte is one.
use mathlib.Core.Path.{ap}
use native.Mathlib.Omega.{arith}
use Rattle.gas.specs.Gas.{Parts}
use Rattle.model.specs.Trace.{top, is_grown, in_row}
use Rattle.model.proofs.FitLaws.{square-lt}
use Rattle.model.proofs.StateLaws.{top_lt}
use Rattle.state.specs.Plain.{state}
use Rattle.claim.specs.Told.{plain_claim}
use Rattle.cycle.proofs.within.Made.tail.Goals as goal

pub overflow_cast-q2 : goal.overflow_cast-q2
overflow_cast-q2 c =
    let m = c.args.self in
    let t = top (plain_claim m.cycle.claim) in
    let fits = square-lt (is_grown (state m.cycle.before) t) t (top_lt (plain_claim m.cycle.claim) m.within) in
    omega (arith, fits, ap (λ (p : Parts). p.q2) m.growth_is.square)

pub overflow_cast-high : goal.overflow_cast-high
overflow_cast-high c = omega (arith, overflow_cast-q2 c)

pub returns : goal.returns
unfolding in_row
returns c =
    let growth = c.args.self.growth_is in
    let q2 = ap (λ (p : Parts). p.q2) growth.square in
    let e = ap (λ (p : Parts). p.e) growth.square in
    let low = ap (λ (p : Parts). p.low) growth.square in
    record {
      ebyte = rw growth.above at c.digit.ensures;
      eacc = rw growth.above at c.prefix.ensures;
      q1 = growth.word;
      q1byte = rw growth.word at c.digit-2.ensures;
      q1acc = rw growth.word at c.prefix-2.ensures;
      q2 = q2;
      q2byte = rw q2 at c.digit-3.ensures;
      q2acc = rw q2 at c.prefix-3.ensures;
      aux1 = rw (growth.lifted, growth.byte) at c.in_rows.ensures;
      aux2 = rw (e, q2, low) at c.in_rows-2.ensures;
    }
