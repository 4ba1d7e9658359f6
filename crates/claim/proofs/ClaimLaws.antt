-- Laws of lines and claims: which lines are refused and which are instructions, and how far the ends of an instruction reach.
use Prim.Native.Nat.{ℕ, zero, suc, ◌+◌, ◌*◌, ◌-◌, ◌^◌, ◌<◌, ◌≤◌}
use mathlib.Core.Bool.{Bool, true, false, false≢true, ◌||◌}
use mathlib.Core.Logic.{◌≢◌, ◌↔◌, ⊎_elim}
use mathlib.Core.Path.{◌≡◌, refl, sym, ◌∙◌}
use native.Mathlib.Nat.{lt_of_le_of_lt, pos_of_ne-zero}
use native.Mathlib.Omega.{arith}
use borrow.Author.Tests.{eq-eqb, ne_eqb, eqb-true, eqb-false, ltb-true, ltb-false}
use lib.Dec.{eqb, ltb, lit<}
use Rattle.number.specs.Tests.{pick}
use Rattle.long.proofs.LongLaws.{whole_long}
use Rattle.number.proofs.TestLaws.{both, both_intro, either}
use Rattle.opcode.specs.Opcodes.{unlisted, touches_nothing, touches_word, touches_byte, touches_range, category_of}
use Rattle.gas.specs.Gas.{word_bytes, range_end}
use Rattle.model.specs.Promises.{ValidClaim}
use Rattle.refusal.specs.Refusals.{cn_zero, not_listed, unused_field}
use Rattle.claim.specs.Claims.{end1, end2, claim_of}
use Rattle.claim.specs.Instruction.{Fields, Range, Touched, nothing, one, two, Instruction, Use, use_of, unused_zero, used}
use Rattle.claim.specs.Instruction.{instruction_of, Decoded, decoded, refused, decode, UnusedZero, Sized}
use Rattle.claim.specs.Instruction.{Answer, cn_is_zero, op_not_listed, field_unused, instruction}
use Rattle.claim.specs.Told.{told_touched, plain_touched, told_instruction, plain_instruction}

-- ---- the answer for a line

-- a number among the first n, or 0
used_or_zero : (k n x : ℕ) → (ltb k n || eqb x 0) ≡ true → n ≤ k → x ≡ 0
used_or_zero k n x e h = ⊎_elim (λ u. absurd (omega (arith, ltb-true k n u))) (eqb-true x 0) (either (ltb k n) (eqb x 0) e)

zero_or_used : (k n x : ℕ) → (n ≤ k → x ≡ 0) → (ltb k n || eqb x 0) ≡ true
zero_or_used k n x h = by (ltb k n) refl
  where
    by : (t : Bool) → ltb k n ≡ t → (t || eqb x 0) ≡ true
    by true e = refl
    by false e = eq-eqb x 0 (h (ltb-false k n e))

-- the test says that the unused fields are 0
unused_are_zero : (n : ℕ) (f : Fields) → unused_zero n f ≡ true → UnusedZero n f
unfolding unused_zero
unused_are_zero n f e =
    let (a, b) = both _ _ e in
    let (at1, len1) = both _ _ a in
    let (at2, len2) = both _ _ b in
    record {
      at1 = used_or_zero 0 n f.at1 at1;
      len1 = used_or_zero 1 n f.len1 len1;
      at2 = used_or_zero 2 n f.at2 at2;
      len2 = used_or_zero 3 n f.len2 len2;
    }

zero_unused : (n : ℕ) (f : Fields) → UnusedZero n f → unused_zero n f ≡ true
unfolding unused_zero
zero_unused n f u =
    both_intro _ _ (both_intro _ _ (zero_or_used 0 n f.at1 u.at1) (zero_or_used 1 n f.len1 u.len1))
    (both_intro _ _ (zero_or_used 2 n f.at2 u.at2) (zero_or_used 3 n f.len2 u.len2))

module _ (f : Fields) where
  -- a line with cn 0 is refused with 4
  pub zero_refused : f.cn ≡ 0 → decode f ≡ refused cn_zero
  unfolding decode
  zero_refused e = rw (eq-eqb f.cn 0 e)

  module _ (some : f.cn ≢ 0) where
    -- any other whose opcode is in no row, with 5
    pub unlisted_refused : category_of f.op ≡ unlisted → decode f ≡ refused not_listed
    unfolding decode
    unlisted_refused e = rw (ne_eqb f.cn 0 some, eq-eqb (category_of f.op) unlisted e)

    module _ (known : category_of f.op ≢ unlisted) where
      -- any other that has an unused field other than 0, with 6
      pub unused_refused : unused_zero (used f).fields f ≡ false → decode f ≡ refused unused_field
      unfolding decode
      unused_refused e = rw (ne_eqb f.cn 0 some, ne_eqb (category_of f.op) unlisted known, e)

      -- any other is an instruction
      pub rest_decoded : unused_zero (used f).fields f ≡ true → decode f ≡ decoded (instruction_of f)
      unfolding decode
      rest_decoded e = rw (ne_eqb f.cn 0 some, ne_eqb (category_of f.op) unlisted known, e)

  answer : Answer f (decode f)
  answer = by (eqb f.cn 0) (eqb (category_of f.op) unlisted) (unused_zero (used f).fields f) refl refl refl
    where
      by : (a b c : Bool) → eqb f.cn 0 ≡ a → eqb (category_of f.op) unlisted ≡ b → unused_zero (used f).fields f ≡ c → Answer f (decode f)
      by true b c p q r =
          let e = eqb-true f.cn 0 p in
          rw (zero_refused e) (cn_is_zero e)
      by false true c p q r =
          let n = eqb-false f.cn 0 p in
          let e = eqb-true (category_of f.op) unlisted q in
          rw (unlisted_refused n e) (op_not_listed n e)
      by false false false p q r =
          let n = eqb-false f.cn 0 p in
          let k = eqb-false (category_of f.op) unlisted q in
          rw (unused_refused n k r) (field_unused n k (λ u. false≢true (sym r ∙ zero_unused (used f).fields f u)))
      by false false true p q r =
          let n = eqb-false f.cn 0 p in
          let k = eqb-false (category_of f.op) unlisted q in
          rw (rest_decoded n k r) (instruction n k (unused_are_zero (used f).fields f r))

  not_unused_zero : ¬ UnusedZero (used f).fields f → unused_zero (used f).fields f ≡ false
  not_unused_zero u = by (unused_zero (used f).fields f) refl
    where
      by : (t : Bool) → unused_zero (used f).fields f ≡ t → t ≡ false
      by true e = absurd (u (unused_are_zero (used f).fields f e))
      by false e = refl

  answered : {d : Decoded} → Answer f d → decode f ≡ d
  answered (cn_is_zero e) = zero_refused e
  answered (op_not_listed n e) = unlisted_refused n e
  answered (field_unused n k u) = unused_refused n k (not_unused_zero u)
  answered (instruction n k u) = rest_decoded n k (zero_unused (used f).fields f u)

  -- a line is refused with 4 exactly if its cn is 0; with 5 exactly if cn is not 0 and its opcode is in no row; with 6 exactly if cn is not 0, the
  -- opcode is in a row and an unused field is not 0; else it is the instruction of its cn and opcode
  pub decode_cases : (d : Decoded) → (decode f ≡ d) ↔ Answer f d
  decode_cases d = (λ e. rw e at answer, answered)

  -- no two of these cases go together
  pub one_answer : {d e : Decoded} → Answer f d → Answer f e → d ≡ e
  one_answer a b = sym (answered a) ∙ answered b

-- what is known of a line that is an instruction: its cn is not 0, its opcode is listed, and the instruction is that of its fields
pub record Read (f : Fields) (i : Instruction) : Type 0 where
  pub some : f.cn ≢ 0
  pub known : category_of f.op ≢ unlisted
  pub same : i ≡ instruction_of f

read_answer : {f : Fields} {i : Instruction} → Answer f (decoded i) → Read f i
read_answer (instruction n k u) = record { some = n; known = k; same = refl }

-- it is known where the line is an instruction
pub read : {f : Fields} {i : Instruction} → decode f ≡ decoded i → Read f i
read {f} {i} e = read_answer ((decode_cases f (decoded i)).0 e)

-- ---- ends

-- a length of 0 has end 0
pub end_none : (at len : ℕ) → len ≡ 0 → range_end at len ≡ 0
unfolding range_end
end_none at zero e = refl
end_none at (suc n) e = absurd (omega arith)

-- any other has the sum of offset and length
pub end_sum : (at len : ℕ) → len ≢ 0 → range_end at len ≡ at + len
unfolding range_end
end_sum at zero n = absurd (n refl)
end_sum at (suc l) n = refl

-- a range of length 0 has end 0 at any offset: the one range, the first of two and the second of two
pub zero_length_free : (a b : Range) → (a.len ≡ 0 → (end1 (one a) ≡ 0) × (end1 (two a b) ≡ 0)) × (b.len ≡ 0 → end2 (two a b) ≡ 0)
zero_length_free a b = (
  λ e.
      let z = end_none a.at a.len e in
      (z, z),
  end_none b.at b.len,
)

-- offset and length below B make an end of at most 2 * B - 2
end_within : (B at len : ℕ) → at < B → len < B → range_end at len + 2 ≤ 2 * B
unfolding range_end
end_within B at zero h k = omega arith
end_within B at (suc n) h k = omega arith

pick_holds : {A : Type 0} (P : A → Type 0) (t : Bool) {a b : A} → P a → P b → P (pick t a b)
pick_holds P true p q = p
pick_holds P false p q = q

module _ (B : ℕ) (f : Fields) (word : word_bytes < B) (at1 : f.at1 < B) (len1 : f.len1 < B) (at2 : f.at2 < B) (len2 : f.len2 < B) where
  -- both ends are at most 2 * B - 2
  Within : Use → Type 0
  Within u = (end1 u.touched + 2 ≤ 2 * B) × (end2 u.touched + 2 ≤ 2 * B)

  ends_within : (c : ℕ) → Within (use_of c f)
  unfolding Within use_of
  ends_within c =
      let none : 0 + 2 ≤ 2 * B = omega arith in
      let first = end_within B f.at1 f.len1 at1 len1 in
      pick_holds Within (eqb c touches_nothing) (none, none)
      (pick_holds Within (eqb c touches_word) (end_within B f.at1 _ at1 word, none)
      (pick_holds Within (eqb c touches_byte) (end_within B f.at1 _ at1 (omega arith), none)
      (pick_holds Within (eqb c touches_range) (first, none) (first, end_within B f.at2 f.len2 at2 len2))))

-- over any number, since `omega` takes none of more than 38 digits
two_less : {X e : ℕ} → e + 2 ≤ X → e ≤ X - 2
two_less h = omega arith

module _ {f : Fields} {i : Instruction} (s : Sized f) (e : decode f ≡ decoded i) where
  -- both ends of a line's instruction are at most 2^129 - 2
  pub ends_fit : ((claim_of i).end1 ≤ 2 ^ 129 - 2) × ((claim_of i).end2 ≤ 2 ^ 129 - 2)
  unfolding Within claim_of
  ends_fit =
      let w = ends_within (2 ^ 128) f (lit< tt) s.at1 s.len1 s.at2 s.len2 (category_of f.op) in
      rw (read e).same (two_less w.0, two_less w.1)

  -- its claim is one that a trace can carry
  pub line_valid : ValidClaim (claim_of i)
  unfolding claim_of
  line_valid =
      let (a, b) = ends_fit in
      rw (read e).same (record {
        some = pos_of_ne-zero (read e).some;
        cn = s.cn;
        end1 = lt_of_le_of_lt (rw (read e).same at a) (lit< tt);
        end2 = lt_of_le_of_lt (rw (read e).same at b) (lit< tt);
      })

-- the longest ranges at the greatest offsets: a CALL that reaches 2^129 - 2 twice
abbrev pub widest : Fields
widest = record { cn = 1; op = 0xf1; at1 = 2 ^ 128 - 1; len1 = 2 ^ 128 - 1; at2 = 2 ^ 128 - 1; len2 = 2 ^ 128 - 1 }

-- it is as wide as the fields of a line and is an instruction, so no lower bound holds
pub widest_ends : Sized widest × ((decode widest ≡ decoded (instruction_of widest))
    × (((claim_of (instruction_of widest)).end1 ≡ 2 ^ 129 - 2) × ((claim_of (instruction_of widest)).end2 ≡ 2 ^ 129 - 2)))
unfolding decode category_of use_of unused_zero claim_of range_end
widest_ends = (record { cn = lit< tt; op = lit< tt; at1 = lit< tt; len1 = lit< tt; at2 = lit< tt; len2 = lit< tt }, (refl, (refl, refl)))

-- ---- instructions in the code

plain_told_touched : (t : Touched) → plain_touched (told_touched t) ≡ t
plain_told_touched nothing = refl
plain_told_touched (one a) = λ i. one (record { at = whole_long a.at i; len = whole_long a.len i })
plain_told_touched (two a b) =
    λ i. two (record { at = whole_long a.at i; len = whole_long a.len i }) (record { at = whole_long b.at i; len = whole_long b.len i })

-- what the code holds of an instruction is the instruction
pub plain-told : (i : Instruction) → plain_instruction (told_instruction i) ≡ i
plain-told i = λ j. record { context = i.context; op = i.op; touched = plain_told_touched i.touched j }
