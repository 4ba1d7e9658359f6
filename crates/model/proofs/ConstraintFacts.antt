-- What constraints 5, 8, 9 and 14 to 25 say, each under its number: facts about the cells of a row x that meets them, where they ask something.
-- The row before it is b, the row two before it is a, and s is the state of its context.
use Prim.Native.Nat.{ℕ, ◌+◌, ◌*◌, ◌^◌, ◌≤◌}
use mathlib.Core.Bool.{Bool, true, ◌&&◌}
use mathlib.Core.Logic.{◌≢◌}
use mathlib.Core.Path.{◌≡◌}
use borrow.Author.Tests.{eqb-true, eq-eqb, leb-true}
use lib.Dec.{eqb}
use Rattle.number.specs.Whole.{bound}
use Rattle.number.proofs.TestLaws.{both, both_intro}
use Rattle.gas.specs.Gas.{word_bytes, word_gas, joined}
use Rattle.model.specs.Columns.{Cells, from_comp, cells_in}
use Rattle.model.specs.Constraints.{in_last, out_last, kept, aux_lift, quotients, stays, grows}
use Rattle.model.specs.Constraints.{k5, k8, k9, k14, k15, k16, k17, k18, k19, k20, k21, k22, k23, k24, k25}
use Rattle.model.specs.Cycles.{claim_of}
use Rattle.model.specs.State.{State}
use Rattle.model.specs.Tests.{pick, implies, zeros, is_difference, sums_up}
use Rattle.model.specs.Trace.{beyond_end}
use Rattle.model.proofs.TestFacts.{implies_use, if_equal_use, if_unequal_use, equal_are, difference}

three : (a b c : Bool) → (a && b && c) ≡ true → (a ≡ true) × (b ≡ true) × (c ≡ true)
three a b c h =
    let (t, r) = both (a && b) c h in
    let (p, q) = both a b t in
    (p, q, r)

two-equal : {a b c d : ℕ} → (eqb a b && eqb c d) ≡ true → (a ≡ b) × (c ≡ d)
two-equal {a} {b} {c} {d} h =
    let (p, q) = both (eqb a b) (eqb c d) h in
    (eqb-true a b p, eqb-true c d q)

-- ---- in every cycle

pub says5 : (b x : Cells) → k5 b x ≡ true → x.ct ≢ 0 → x.ooob ≡ b.ooob
unfolding k5
says5 b x h z =
    let t = both (implies (eqb x.stamp 0) (eqb x.ooob 0)) _ h in
    eqb-true _ _ (if_unequal_use x.ct 0 _ t.1 z)

pub says8 : (b x : Cells) → k8 b x ≡ true → x.ct ≢ 0 → kept x ≡ kept b
unfolding k8
says8 b x h z = equal_are (kept x) (kept b) (if_unequal_use x.ct 0 _ h z)

pub says9 : (s : State) (x : Cells) → k9 s x ≡ true → x.ct ≡ 0 → (x.mem ≡ s.mem) × (x.cost ≡ s.cost)
unfolding k9
says9 s x h e = two-equal (if_equal_use x.ct 0 _ h e)

-- ---- in bounds

pub says14 : (b x : Cells) → k14 b x ≡ true → x.flag ≡ 1
    → (sums_up x.ct b.q1acc x.q1byte x.q1acc ≡ true) × (sums_up x.ct b.q2acc x.q2byte x.q2acc ≡ true)
unfolding k14
says14 b x h f = both _ _ (if_equal_use x.flag 1 _ h f)

pub says15 : (x : Cells) → k15 x ≡ true → (x.comp ≤ 1) × (x.flag ≤ 1)
unfolding k15
says15 x h =
    let t = both _ _ h in
    (leb-true _ _ t.0, leb-true _ _ t.1)

pub says16 : (x : Cells) → k16 x ≡ true → x.endmax ≡ pick (eqb x.comp 1) x.end1 x.end2
unfolding k16
says16 x h = eqb-true _ _ h

-- MEMN=MEM, COSTN=COST, GAS=0
pub record Stayed (x : Cells) : Type 0 where
  pub memn : x.memn ≡ x.mem
  pub costn : x.costn ≡ x.cost
  pub gas : x.gas ≡ 0

stayed : (x : Cells) → stays x ≡ true → Stayed x
unfolding stays
stayed x h =
    let t = three _ _ _ h in
    record { memn = eqb-true _ _ t.0; costn = eqb-true _ _ t.1; gas = eqb-true _ _ t.2 }

-- MEMN=ENDMAX, COSTN=3(1+Q1)+Q2, COSTN=COST+GAS
pub record Grown (x : Cells) : Type 0 where
  pub memn : x.memn ≡ x.endmax
  pub costn : x.costn ≡ word_gas * (1 + x.q1) + x.q2
  pub gas : x.costn ≡ x.cost + x.gas

grown : (x : Cells) → grows x ≡ true → Grown x
unfolding grows
grown x h =
    let t = three _ _ _ h in
    record { memn = eqb-true _ _ t.0; costn = eqb-true _ _ t.1; gas = eqb-true _ _ t.2 }

pub says17 : (x : Cells) → k17 x ≡ true → (x.flag ≡ 0 → Stayed x) × (x.flag ≡ 1 → Grown x)
unfolding k17
says17 x h =
    let t = both _ _ h in
    (λ f. stayed x (if_equal_use x.flag 0 _ t.0 f), λ f. grown x (if_equal_use x.flag 1 _ t.1 f))

pub says18 : (x : Cells) → k18 x ≡ true → x.ct ≡ in_last → (x.acc1 ≡ x.end1) × (x.acc2 ≡ x.end2)
unfolding k18
says18 x h e = two-equal (if_equal_use x.ct in_last _ h e)

pub says19 : (x : Cells) → k19 x ≡ true → x.ct ≡ in_last
    → pick (eqb x.comp 1) (is_difference x.dacc x.end1 x.end2) (is_difference x.dacc x.end2 (x.end1 + 1)) ≡ true
unfolding k19
says19 x h e = if_equal_use x.ct in_last _ h e

pub says20 : (x : Cells) → k20 x ≡ true → x.ct ≡ in_last
    → pick (eqb x.flag 1) (is_difference x.eacc x.endmax (x.mem + 1)) (is_difference x.eacc x.mem x.endmax) ≡ true
unfolding k20
says20 x h e = if_equal_use x.ct in_last _ h e

-- the two divisions, over the rows a, b, x
pub record Divided (a b x : Cells) : Type 0 where
  pub q1 : x.q1acc ≡ x.q1
  pub lift : b.aux1 ≡ x.aux1 + aux_lift
  pub word : word_bytes * x.q1 + x.aux1 + 1 ≡ x.endmax
  pub e : a.aux2 ≤ 1
  pub q2 : x.q2 ≡ x.q2acc + 256 ^ 3 * b.aux2
  pub square : (1 + x.q1) * (1 + x.q1) ≡ joined (record { q2 = x.q2; e = a.aux2; low = x.aux2 })

pub says21_22 : (a b x : Cells) → k21 b x ≡ true → k22 a b x ≡ true → x.ct ≡ in_last → x.flag ≡ 1 → Divided a b x
unfolding k21 k22
says21_22 a b x h k e f =
    let last = both_intro _ _ (eq-eqb x.ct in_last e) (eq-eqb x.flag 1 f) in
    let t = three _ _ _ (implies_use _ _ h last) in
    let u = three _ _ _ (implies_use _ _ k last) in
    record {
      q1 = eqb-true _ _ t.0;
      lift = eqb-true _ _ t.1;
      word = difference _ _ _ t.2;
      e = leb-true _ _ u.0;
      q2 = eqb-true _ _ u.1;
      square = eqb-true _ _ u.2;
    }

pub says23 : (x : Cells) → k23 x ≡ true → (x.flag ≡ 0 → zeros (quotients x) ≡ true) × (x.flag ≡ 1 → x.ct ≡ 0 → x.aux1 ≡ 0)
unfolding k23
says23 x h =
    let t = both _ _ h in (
      λ f. if_equal_use x.flag 0 _ t.0 f,
      λ f e. eqb-true _ _ (implies_use _ _ t.1 (both_intro _ _ (eq-eqb x.flag 1 f) (eq-eqb x.ct 0 e))),
    )

-- ---- out of bounds

-- the state is carried on, and the cells without use are 0
pub record Carried (x : Cells) : Type 0 where
  pub stayed : Stayed x
  pub byte2 : x.byte2 ≡ 0
  pub acc2 : x.acc2 ≡ 0
  pub unused : zeros (cells_in from_comp x) ≡ true

pub says24 : (x : Cells) → k24 x ≡ true → Carried x
unfolding k24
says24 x h =
    let t = both _ _ h in
    let u = three _ _ _ t.0 in
    record { stayed = stayed x u.0; byte2 = eqb-true _ _ u.1; acc2 = eqb-true _ _ u.2; unused = t.1 }

pub says25 : (x : Cells) → k25 x ≡ true → x.ct ≡ out_last → x.acc1 + bound ≡ beyond_end (claim_of x)
unfolding k25 beyond_end
says25 x h e = difference _ _ _ (if_equal_use x.ct out_last _ h e)
