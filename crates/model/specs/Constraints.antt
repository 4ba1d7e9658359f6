-- The 26 constraints of document 01, each named by its number, and the first that a row breaks. In each x is the row, b the row before it and
-- a the row two before it.
use Rattle.std.specs.Prelude.{ℕ, zero, suc, ◌+◌, ◌*◌, ◌^◌, Bool, true, false, not, ◌&&◌, List, [], ◌∷◌, eqb, leb, get_or}
use Rattle.number.specs.Whole.{bound}
use Rattle.gas.specs.Gas.{word_bytes, word_gas, joined}
use Rattle.model.specs.Columns.{Cells, columns, from_comp, cells_in}
use Rattle.model.specs.State.{State}
use Rattle.model.specs.Steps.{stamp_moves, ct_moves}
use Rattle.model.specs.Tests.{pick, implies, zeros, is_difference, sums_up}

-- A cycle is the rows of one instruction; its last CT is E: 2 if OOOB=0, 16 if OOOB=1.
abbrev pub in_last : ℕ
in_last = 2

abbrev pub out_last : ℕ
out_last = 16

-- E, by OOOB
unfoldable pub last_ct : ℕ → ℕ
last_ct ooob = pick (eqb ooob 1) out_last in_last

-- a row of an instruction: one whose STAMP is not 0
unfoldable pub in_use : Cells → Bool
in_use x = not (eqb x.stamp 0)

-- equal numbers at equal places
unfoldable pub equal : List ℕ → List ℕ → Bool
equal [] [] = true
equal [] (w ∷ ws) = false
equal (v ∷ vs) [] = false
equal (v ∷ vs) (w ∷ ws) = eqb v w && equal vs ws

-- 1. OOOB is 0 or 1.
unfoldable pub k1 : Cells → Bool
k1 x = leb x.ooob 1

-- 2. Row 0 has STAMP 0.
unfoldable pub k2 : (first : Bool) → Cells → Bool
k2 first x = implies first (eqb x.stamp 0)

-- 3. i>0: after STAMP 0 comes 0 or 1. Otherwise STAMP equals the one before if that row's CT was not its E, else it is one more.
unfoldable pub k3 : (first : Bool) → (b x : Cells) → Bool
k3 first b x = implies (not first) (stamp_moves b.stamp b.ct (last_ct b.ooob) x.stamp)

-- 4. CT is 0 where STAMP is 0 or new; else one more than before.
unfoldable pub k4 : (b x : Cells) → Bool
k4 b x = ct_moves b.stamp b.ct x.stamp x.ct

-- 5. STAMP 0: OOOB is 0. Inside a cycle OOOB is as before.
unfoldable pub k5 : (b x : Cells) → Bool
k5 b x = implies (eqb x.stamp 0) (eqb x.ooob 0) && implies (not (eqb x.ct 0)) (eqb x.ooob b.ooob)

-- 6. STAMP 0: every cell is 0.
unfoldable pub k6 : Cells → Bool
k6 x = implies (eqb x.stamp 0) (zeros (cells_in columns x))

-- ---- 7 to 25 hold where STAMP is not 0

-- 7. CN is not 0.
unfoldable pub k7 : Cells → Bool
k7 x = not (eqb x.cn 0)

-- CN, END1, END2, MEM, MEMN, COST, COSTN, GAS, COMP, ENDMAX, FLAG, Q1, Q2
abbrev pub kept : Cells → List ℕ
kept x =
    x.cn ∷ x.end1 ∷ x.end2 ∷ x.mem ∷ x.memn ∷ x.cost ∷ x.costn ∷ x.gas ∷ x.comp ∷ x.endmax ∷ x.flag ∷ x.q1 ∷ x.q2 ∷ []

-- 8. CT not 0: CN, END1, END2, MEM, MEMN, COST, COSTN, GAS, COMP, ENDMAX, FLAG, Q1, Q2 are as before.
unfoldable pub k8 : (b x : Cells) → Bool
k8 b x = implies (not (eqb x.ct 0)) (equal (kept x) (kept b))

-- 9. CT=0: MEM and COST equal MEMN and COSTN of the latest earlier cycle with this CN; both 0 if there is none.
unfoldable pub k9 : State → Cells → Bool
k9 s x = implies (eqb x.ct 0) (eqb x.mem s.mem && eqb x.cost s.cost)

-- 10. BYTE1 sums up into ACC1.
unfoldable pub k10 : (b x : Cells) → Bool
k10 b x = sums_up x.ct b.acc1 x.byte1 x.acc1

-- ---- 11 to 23 where OOOB=0

-- 11. BYTE2 sums up into ACC2.
unfoldable pub k11 : (b x : Cells) → Bool
k11 b x = sums_up x.ct b.acc2 x.byte2 x.acc2

-- 12. DBYTE into DACC.
unfoldable pub k12 : (b x : Cells) → Bool
k12 b x = sums_up x.ct b.dacc x.dbyte x.dacc

-- 13. EBYTE into EACC.
unfoldable pub k13 : (b x : Cells) → Bool
k13 b x = sums_up x.ct b.eacc x.ebyte x.eacc

-- 14. FLAG=1: Q1BYTE into Q1ACC, Q2BYTE into Q2ACC.
unfoldable pub k14 : (b x : Cells) → Bool
k14 b x = implies (eqb x.flag 1) (sums_up x.ct b.q1acc x.q1byte x.q1acc && sums_up x.ct b.q2acc x.q2byte x.q2acc)

-- 15. COMP and FLAG are each 0 or 1.
unfoldable pub k15 : Cells → Bool
k15 x = leb x.comp 1 && leb x.flag 1

-- 16. ENDMAX is END1 if COMP=1, else END2.
unfoldable pub k16 : Cells → Bool
k16 x = eqb x.endmax (pick (eqb x.comp 1) x.end1 x.end2)

-- MEMN=MEM, COSTN=COST, GAS=0
unfoldable pub stays : Cells → Bool
stays x = eqb x.memn x.mem && eqb x.costn x.cost && eqb x.gas 0

-- MEMN=ENDMAX, COSTN=3(1+Q1)+Q2, COSTN=COST+GAS
unfoldable pub grows : Cells → Bool
grows x = eqb x.memn x.endmax && eqb x.costn (word_gas * (1 + x.q1) + x.q2) && eqb x.costn (x.cost + x.gas)

-- 17. FLAG=0: MEMN=MEM, COSTN=COST, GAS=0. FLAG=1: MEMN=ENDMAX, COSTN=3(1+Q1)+Q2, COSTN=COST+GAS.
unfoldable pub k17 : Cells → Bool
k17 x = implies (eqb x.flag 0) (stays x) && implies (eqb x.flag 1) (grows x)

-- 18. CT=2: ACC1=END1, ACC2=END2.
unfoldable pub k18 : Cells → Bool
k18 x = implies (eqb x.ct in_last) (eqb x.acc1 x.end1 && eqb x.acc2 x.end2)

-- 19. CT=2: DACC = END1-END2 if COMP=1, else END2-END1-1.
unfoldable pub k19 : Cells → Bool
k19 x =
    implies (eqb x.ct in_last)
    (pick (eqb x.comp 1) (is_difference x.dacc x.end1 x.end2) (is_difference x.dacc x.end2 (x.end1 + 1)))

-- 20. CT=2: EACC = ENDMAX-MEM-1 if FLAG=1, else MEM-ENDMAX.
unfoldable pub k20 : Cells → Bool
k20 x =
    implies (eqb x.ct in_last)
    (pick (eqb x.flag 1) (is_difference x.eacc x.endmax (x.mem + 1)) (is_difference x.eacc x.mem x.endmax))

-- what is added to AUX1, so that only a number below 32 leaves a byte: 256-32
abbrev pub aux_lift : ℕ
aux_lift = 224

-- 21. CT=2, FLAG=1: Q1ACC=Q1; AUX1 one row before = AUX1+224; ENDMAX-1 = 32*Q1+AUX1.
unfoldable pub k21 : (b x : Cells) → Bool
k21 b x =
    implies (eqb x.ct in_last && eqb x.flag 1)
    (eqb x.q1acc x.q1 && eqb b.aux1 (x.aux1 + aux_lift) && is_difference (word_bytes * x.q1 + x.aux1) x.endmax 1)

-- 22. CT=2, FLAG=1: AUX2 two rows before (e) is 0 or 1; Q2 = Q2ACC + 256^3 * (AUX2 one row before); (1+Q1)^2 = 512*Q2 + 256*e + AUX2.
unfoldable pub k22 : (a b x : Cells) → Bool
k22 a b x =
    implies (eqb x.ct in_last && eqb x.flag 1)
    (leb a.aux2 1 && eqb x.q2 (x.q2acc + 256 ^ 3 * b.aux2)
    && eqb ((1 + x.q1) * (1 + x.q1)) (joined (record { q2 = x.q2; e = a.aux2; low = x.aux2 })))

-- the Q and AUX cells
abbrev pub quotients : Cells → List ℕ
quotients x = x.q1 ∷ x.q1byte ∷ x.q1acc ∷ x.q2 ∷ x.q2byte ∷ x.q2acc ∷ x.aux1 ∷ x.aux2 ∷ []

-- 23. FLAG=0: the Q and AUX cells are 0. FLAG=1, CT=0: AUX1 is 0.
unfoldable pub k23 : Cells → Bool
k23 x = implies (eqb x.flag 0) (zeros (quotients x)) && implies (eqb x.flag 1 && eqb x.ct 0) (eqb x.aux1 0)

-- ---- 24 and 25 where OOOB=1

-- 24. MEMN=MEM, COSTN=COST, GAS=0; BYTE2, ACC2 and every cell from COMP on are 0.
unfoldable pub k24 : Cells → Bool
k24 x = stays x && eqb x.byte2 0 && eqb x.acc2 0 && zeros (cells_in from_comp x)

-- 25. CT=16: ACC1 = END1-2^24 if END1 is at least 2^24, else END2-2^24.
unfoldable pub k25 : Cells → Bool
k25 x = implies (eqb x.ct out_last) (is_difference x.acc1 (pick (leb bound x.end1) x.end1 x.end2) bound)

-- 26. The last row, STAMP not 0: CT is E.
unfoldable pub k26 : (last : Bool) → Cells → Bool
k26 last x = implies (last && in_use x) (eqb x.ct (last_ct x.ooob))

-- what is looked at where a row is judged: the row two before, the row before and the row itself, the state of its context before it, whether it
-- is row 0, and whether it is the last
pub record View : Type 0 where
  pub two : Cells
  pub one : Cells
  pub this : Cells
  pub state : State
  pub first : Bool
  pub last : Bool

-- 7 to 25 hold where STAMP is not 0; 11 to 23 where OOOB=0; 24 and 25 where OOOB=1
abbrev pub used : Cells → Bool → Bool
used x k = implies (in_use x) k

abbrev pub within : Cells → Bool → Bool
within x k = used x (implies (eqb x.ooob 0) k)

abbrev pub beyond : Cells → Bool → Bool
beyond x k = used x (implies (eqb x.ooob 1) k)

-- whether the row meets each of the 26, in their order, where the answers to 9 and to 25 are known
abbrev pub constraints_by : (a b x : Cells) → (first last nine twenty_five : Bool) → List Bool
constraints_by a b x first last nine twenty_five =
    k1 x ∷ k2 first x ∷ k3 first b x ∷ k4 b x ∷ k5 b x ∷ k6 x
    ∷ used x (k7 x) ∷ used x (k8 b x) ∷ used x nine ∷ used x (k10 b x)
    ∷ within x (k11 b x) ∷ within x (k12 b x) ∷ within x (k13 b x) ∷ within x (k14 b x) ∷ within x (k15 x) ∷ within x (k16 x)
    ∷ within x (k17 x) ∷ within x (k18 x) ∷ within x (k19 x) ∷ within x (k20 x) ∷ within x (k21 b x) ∷ within x (k22 a b x) ∷ within x (k23 x)
    ∷ beyond x (k24 x) ∷ beyond x twenty_five ∷ k26 last x ∷ []

-- and with the answers to those two
abbrev pub constraints : View → List Bool
constraints v = constraints_by v.two v.one v.this v.first v.last (k9 v.state v.this) (k25 v.this)

-- constraint k, from 1; there are no others
unfoldable pub constraint : ℕ → View → Bool
constraint zero v = true
constraint (suc k) v = get_or (constraints v) k true

-- the number of the first test that fails, counted from k; where none does, what is found after them
unfoldable pub first_or : ℕ → List Bool → (rest : ℕ) → ℕ
first_or k [] rest = rest
first_or k (t ∷ ts) rest = pick t (first_or (suc k) ts rest) k

-- the number of the first test that fails, counted from k; 0 if none does
abbrev pub first_failed : ℕ → List Bool → ℕ
first_failed k ts = first_or k ts 0

-- the first broken constraint of a row, 0 if it meets all
unfoldable pub first_broken : View → ℕ
first_broken v = first_failed 1 (constraints v)
