-- A list that is read line by line: where the reading stands after some lines, what the next line makes of it, and the claim that the code makes of a line.
use Prim.Native.Nat.{ℕ, suc, ◌+◌, ◌-◌, ◌≤◌, ◌<◌}
use mathlib.Core.List.{List, [], ◌∷◌, ◌++◌, append_assoc, append-nil}
use mathlib.Core.Path.{◌≡◌, refl, sym, ◌∙◌, ap}
use native.Mathlib.Nat.{sub-zero, suc-sub-suc}
use native.Mathlib.Omega.{arith}
use lib.ListN.{length, length-append}
use Rattle.std.specs.Prelude.{None, Some, Ok, Err}
use Rattle.number.proofs.WholeLaws.{val-wide}
use Rattle.number.proofs.TestLaws.{clash}
use Rattle.model.specs.Cycles.{Claim}
use Rattle.model.specs.Trace.{last_of, trace}
use Rattle.model.proofs.JoinLaws.{length_cycle, trace_snoc}
use Rattle.refusal.specs.Refusals.{in_line}
use Rattle.refusal.specs.declared.Refusal.{Refusal}
use Rattle.claim.specs.Claims.{claim_of}
use Rattle.claim.specs.Instruction.{Instruction}
use Rattle.claim.specs.Told.{told_instruction, plain_instruction, told_claim, plain_claim}
use Rattle.claim.specs.declared.claim.Claim as code-claim
use Rattle.claim.specs.declared.instruction.Instruction as told-instruction
use Rattle.claim.proofs.ClaimLaws.{plain-told}
use Rattle.list.specs.List as list
use Rattle.list.specs.List.{next_line, Listed, instructions, refused_in, before, list_from, read_list, before_all}
use Rattle.list.specs.Told.{told_next}
use Rattle.list.specs.declared.Listed as told-line
use Rattle.list.proofs.LineLaws.{line_inside}
use Rattle.list.proofs.ListLaws.{next_line_lem, all_before, all_refused}
use Rattle.lines.specs.Lines.{rows_of_claims}
use Rattle.lines.specs.Reading.{told_claimed}

-- ---- the claim of a line, and the rows of its cycle

-- the code's claim of a claim is that claim
pub claim_held : (c : Claim) → plain_claim (told_claim c) ≡ c
claim_held c = rw (val-wide c.end1, val-wide c.end2)

-- the code's claim of an instruction is its claim
pub claim_back : (i : Instruction) → plain_claim (told_claim (claim_of (plain_instruction (told_instruction i)))) ≡ claim_of i
claim_back i = rw (plain-told i) (claim_held (claim_of i))

-- and so is the claim that the code makes of the instruction that it was told
pub claim-told : (i : Instruction) {x : told-instruction.Instruction} {c : code-claim.Claim} → x ≡ told_instruction i
    → c ≡ told_claim (claim_of (plain_instruction x)) → plain_claim c ≡ claim_of i
claim-told i e h = rw (h, e) (claim_back i)

-- the cycles of one claim more have its rows more
pub rows_snoc : (cs : List Claim) (c : Claim) → rows_of_claims (cs ++ (c ∷ [])) ≡ rows_of_claims cs + suc (last_of c)
unfolding trace
rows_snoc cs c = rw (trace_snoc 0 cs c, length-append, length_cycle)

-- ---- what the reading of claims answers

-- of a line that the list reader tells as an instruction, the code's claim of it
pub claimed : (l : ℕ) (x : list.Next) {w : told-line.Listed} {c : code-claim.Claim} → told_next l x ≡ Ok (Some w)
    → c ≡ told_claim (claim_of (plain_instruction w.instruction)) → Ok (Some c) ≡ told_claimed l x
claimed l list.end e h = clash cc
claimed l (list.one j r) {w} {c} e h =
    let same : w.instruction ≡ told_instruction j = cc in
    let made : c ≡ told_claim (claim_of j) = rw (h, same, plain-told j) refl in
    ap (λ (y : code-claim.Claim). Ok (Some y)) made
claimed l (list.refused n r) e h = clash cc

-- it answers none where the list ends
pub claimed_end : (l : ℕ) (x : list.Next) → told_claimed l x ≡ Ok None → x ≡ list.end
claimed_end l list.end e = refl
claimed_end l (list.one i q) e = clash cc
claimed_end l (list.refused n q) e = clash cc

-- a claim where the line is an instruction
pub claimed_one : (l : ℕ) (x : list.Next) {c : code-claim.Claim} → told_claimed l x ≡ Ok (Some c)
    → (j : Instruction) × (q : ℕ) × (x ≡ list.one j q) × (c ≡ told_claim (claim_of j))
claimed_one l list.end e = clash cc
claimed_one l (list.one j r) e = (j, r, refl, cc)
claimed_one l (list.refused n r) e = clash cc

-- and a refusal where the line is refused, by its number
pub claimed_refused : (l : ℕ) (x : list.Next) {w : Refusal} → told_claimed l x ≡ Err w
    → (n : ℕ) × (q : ℕ) × (x ≡ list.refused n q) × (w ≡ in_line n l)
claimed_refused l list.end e = clash cc
claimed_refused l (list.one i r) e = clash cc
claimed_refused l (list.refused n r) e = (n, r, refl, cc)

-- a line that is an instruction ends further on, inside of the text
pub one_inside : (t : List ℕ) (at : ℕ) {j : Instruction} {q : ℕ} → next_line t at ≡ list.one j q → (at < q) × (q ≤ length t)
one_inside t at e = line_inside t at (next_line_lem t at e).1

-- so does one that the list reader tells as an instruction
pub told_inside : (l : ℕ) (t : List ℕ) (at : ℕ) {w : told-line.Listed} → told_next l (next_line t at) ≡ Ok (Some w) → (at < w.next) × (w.next ≤ length t)
told_inside l t at {w} = by (next_line t at) refl
  where
    by : (x : list.Next) → next_line t at ≡ x → told_next l x ≡ Ok (Some w) → (at < w.next) × (w.next ≤ length t)
    by list.end h e = clash cc
    by (list.one j r) h e =
        let same : r ≡ w.next = cc in
        rw (← same) (one_inside t at h)
    by (list.refused n r) h e = clash cc

-- ---- where a reading stands

-- the list that is left at a place, after k lines
abbrev pub left : (t : List ℕ) → (k at : ℕ) → Listed
left t k at = list_from (suc (length t) - k) t at (suc k)

-- a reading of the text stands after the lines of these instructions: k lines, up to the place `at`
pub record Reached (t : List ℕ) (done : List Instruction) (k at : ℕ) : Type 0 where
  pub list : read_list 1 t ≡ before_all done (left t k at)
  pub count : k ≡ length done
  pub ahead : k ≤ at
  pub inside : at ≤ length t

-- it starts at place 0, after no line
pub reached-start : (t : List ℕ) → Reached t [] 0 0
unfolding read_list
reached-start t = record { list = rw sub-zero; count = refl; ahead = omega arith; inside = omega arith }

-- one instruction more, before a list
snoc_before : (done : List Instruction) (i : Instruction) (x : Listed) → before_all (done ++ (i ∷ [])) x ≡ before_all done (before i x)
snoc_before [] i x = refl
snoc_before (j ∷ done) i x = rw (snoc_before done i x)

module _ {t : List ℕ} {done : List Instruction} {k at : ℕ} (r : Reached t done k at) where
  -- one line more may be read, at least
  fuel : suc (length t) - k ≡ suc (length t - k)
  fuel = omega (arith, r.ahead, r.inside)

  -- at the end of the list, its instructions are those that were read
  pub reached_end : next_line t at ≡ list.end → read_list 1 t ≡ instructions done
  unfolding list_from
  reached_end e = rw (r.list, fuel, list_from, e, all_before done [], append-nil)

  -- a line that is refused is what the list is refused for
  pub reached_refused : {n q : ℕ} → next_line t at ≡ list.refused n q → read_list 1 t ≡ refused_in n (suc k) q
  unfolding list_from
  reached_refused e = rw (r.list, fuel, list_from, e, all_refused done)

  -- the list that is left, by the instruction of its first line
  left_next : {i : Instruction} {q : ℕ} → next_line t at ≡ list.one i q → read_list 1 t ≡ before_all (done ++ (i ∷ [])) (left t (suc k) q)
  unfolding list_from
  left_next {i} {q} e = rw (r.list, fuel, list_from, e, snoc_before done i (left t (suc k) q), suc-sub-suc)

  -- after one instruction more, the reading stands behind its line
  pub reached_next : {i : Instruction} {q : ℕ} → next_line t at ≡ list.one i q → Reached t (done ++ (i ∷ [])) (suc k) q × (at < q)
  reached_next {i} {q} e =
      let line = one_inside t at e in
      let next : Reached t (done ++ (i ∷ [])) (suc k) q = record {
        list = left_next e;
        count = rw length-append (omega (arith, r.count));
        ahead = omega (arith, r.ahead, line.0);
        inside = line.1;
      } in
      (next, line.0)

  module _ {each : List Instruction} (whole : read_list 1 t ≡ instructions each) where
    -- instructions before a list that is all of them
    rest_of : (i : Instruction) (x : Listed) → read_list 1 t ≡ before_all (done ++ (i ∷ [])) x → (rest : List Instruction) × (each ≡ done ++ (i ∷ rest))
    rest_of i (instructions rest) e =
        let all = sym whole ∙ e ∙ all_before (done ++ (i ∷ [])) rest in
        let same : each ≡ (done ++ (i ∷ [])) ++ rest = cc in
        (rest, same ∙ append_assoc done (i ∷ []) rest)
    rest_of i (refused_in n l q) e =
        let all = sym whole ∙ e ∙ all_refused (done ++ (i ∷ [])) in
        clash cc

    -- where the next line is an instruction, the list goes on with it
    pub reached-one : {i : Instruction} {q : ℕ} → next_line t at ≡ list.one i q → (rest : List Instruction) × (each ≡ done ++ (i ∷ rest))
    reached-one {i} {q} e = rest_of i (left t (suc k) q) (left_next e)

    -- where it ends, its instructions are those that were read
    pub reached_all : next_line t at ≡ list.end → done ≡ each
    reached_all e =
        let all = sym whole ∙ reached_end e in
        cc

    -- and no line of it is refused
    pub reached_right : {n q : ℕ} → next_line t at ≡ list.refused n q → ⊥
    reached_right e =
        let all = sym whole ∙ reached_refused e in
        clash cc
