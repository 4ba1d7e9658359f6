-- `beyond::OutRowsRows::make` meets its contract: one digit of the distance goes off and is added to the sum (`shift_next`), which is what row i shows. The
-- cells of three bytes are the sound state's, or 0.
use Prim.Native.Nat.{ℕ}
use Rattle.std.proofs.Common.{arith, add-one}
use Rattle.number.proofs.WholeLaws.{val-lt}
use Rattle.model.specs.Cycles.{Claim}
use Rattle.model.specs.State.{State, Sound}
use Rattle.model.specs.Trace.{out_row}
use Rattle.compare.specs.Narrow.{Narrow}
use Rattle.beyond.proofs.ShiftLaws.{shift_next}
use Rattle.beyond.proofs.OutRowsRows.make.Goals as goal

out_narrow : (stamp : ℕ) (s : State) (c : Claim) (i : ℕ) → Sound s → Narrow (out_row stamp s c i)
unfolding out_row
out_narrow stamp s c i k = record {
  memn = k.mem;
  dacc = omega arith;
  endmax = omega arith;
  eacc = omega arith;
  q1 = omega arith;
  q1acc = omega arith;
  q2acc = omega arith;
}

pub row-requires : goal.row-requires
row-requires c =
    let words = c.push-self.type_inv in
    let fits = val-lt c.push-self.result (omega (arith, words)) (omega (arith, words)) (omega (arith, words)) in
    let shown = shift_next c.args.self.now.acc.top (omega arith) c.requires.at c.push-self.ensures c.push-self-2.ensures fits in
    record { byte_value = shown.digit; acc_value = shown.prefix }

pub returns-clause-narrow : goal.returns-clause-narrow
returns-clause-narrow c = rw c.row.ensures (out_narrow _ _ _ _ c.args.self.now.cycle.sound)

pub returns-clause-next : goal.returns-clause-next
returns-clause-next c =
    let words = c.push-self.type_inv in
    let fits = val-lt c.push-self.result (omega (arith, words)) (omega (arith, words)) (omega (arith, words)) in
    let shown = shift_next c.args.self.now.acc.top (omega arith) c.requires.at c.push-self.ensures c.push-self-2.ensures fits in
    rw add-one shown.next
