-- `form::run_on` meets its contract. The invariant: the run goes on from here as the whole of it (`Running`), and what was read leaves room for the digits
-- that may come.
use Prim.Native.Nat.{suc, ◌+◌, ◌-◌}
use mathlib.Core.Path.{◌≡◌, sym}
use native.Mathlib.Omega.{arith}
use lib.ListN.{get_or}
use Rattle.form.proofs.RunLaws.{running_first, running_next, running_none, running_last, digits_fit, digit_less}
use Rattle.form.proofs.TableLaws.{digit_some}
use Rattle.form.proofs.run_on.Goals as goal

pub loop-at-init : goal.loop-at-init
loop-at-init g c =
    let a = c.args in
    let all : a.p + a.most - a.p ≡ a.most = omega arith in
    (running_first a.t.now a.most _ a.p, rw all c.requires.small)

pub with_digit-value-requires : goal.with_digit-value-requires
with_digit-value-requires g c =
    let l = c.loop-at in
    record {
      has_room = digits_fit _ _ g.N.Spelled.most l.invariant.1 (omega (arith, l.invariant.0.from));
      is_digit = (digit_some (get_or c.args.t.now l.at 0) (sym c.in-Some.ensures)).2;
    }

pub loop-at-preserved : goal.loop-at-preserved
loop-at-preserved g c =
    let l = c.loop-at in
    let a = c.args in
    let more : g.N.Spelled.most + 1 - (a.p + a.most - (l.at + 1)) ≡ suc (g.N.Spelled.most + 1 - (a.p + a.most - l.at)) =
    omega (arith, l.invariant.0.from) in (
      rw c.with_digit-value.ensures (running_next a.t.now a.most _ a.p l.invariant.0 (omega arith) (sym c.in-Some.ensures)),
      rw (c.with_digit-value.ensures, more) (digit_less _ _ _ l.invariant.1 (digit_some _ (sym c.in-Some.ensures)).2),
    )

pub returns-in_default : goal.returns-in_default
returns-in_default g c =
    let l = c.loop-at in
    let a = c.args in
    record { run = running_none a.t.now a.most _ a.p l.invariant.0 (omega arith) (sym c.in_default.ensures); forward = omega (arith, l.invariant.0.from) }

pub returns : goal.returns
returns g c =
    let l = c.loop-at in
    let a = c.args in
    let end : c.last_place-end.result ≡ l.at = omega arith in
    record { run = rw end (running_last a.t.now a.most _ a.p l.invariant.0 (omega arith)); forward = omega arith }
