-- A list that is read line by line: the rows of its cycles are counted, up to its end or its first refusal.
use Prim.Native.Nat.{ℕ, suc, ◌+◌, ◌*◌, ◌≤◌, ◌<◌}
use mathlib.Core.List.{List, [], ◌∷◌, ◌++◌, map, map-append}
use mathlib.Core.Path.{◌≡◌, refl, sym, ◌∙◌, ap, subst}
use native.Mathlib.Numerals.{add-one}
use native.Mathlib.Omega.{arith}
use Rattle.std.specs.Prelude.{None, Some, Ok, Err}
use Rattle.number.proofs.TestLaws.{clash}
use Rattle.model.specs.Constraints.{out_last}
use Rattle.model.specs.Cycles.{Claim}
use Rattle.model.specs.Trace.{last_of, cycles_of}
use Rattle.model.proofs.JoinLaws.{last_le}
use Rattle.refusal.specs.Refusals.{in_line}
use Rattle.refusal.specs.declared.Refusal.{Refusal}
use Rattle.claim.specs.Claims.{claim_of}
use Rattle.claim.specs.Instruction.{Instruction}
use Rattle.claim.specs.Told.{told_instruction, plain_claim}
use Rattle.claim.specs.declared.claim.Claim as code
use Rattle.list.specs.List as list
use Rattle.list.specs.List.{next_line, read_list}
use Rattle.list.specs.Told.{told_next}
use Rattle.list.specs.declared.Listed as listed
use Rattle.list.specs.declared.Rejected as rejected
use Rattle.lines.specs.Lines.{rows_of_claims, told_measured}
use Rattle.lines.specs.Reading.{told_claimed, place_after, lines_after}
use Rattle.lines.proofs.ReadLaws.{Reached, reached-start, reached_end, reached_refused, reached_next, claim_held, rows_snoc}
use Rattle.lines.proofs.ReadLaws.{claimed_end, claimed_one, claimed_refused}

-- ---- what the code holds of a line

-- the list ends
pub told_end : (l : ℕ) (x : list.Next) → told_next l x ≡ Ok None → x ≡ list.end
told_end l list.end e = refl
told_end l (list.one i q) e = clash cc
told_end l (list.refused n q) e = clash cc

-- an instruction, and the place after its line
pub told-one : (l : ℕ) (x : list.Next) {w : listed.Listed} → told_next l x ≡ Ok (Some w)
    → (j : Instruction) × (x ≡ list.one j w.next) × (w.instruction ≡ told_instruction j)
told-one l list.end e = clash cc
told-one l (list.one j r) {w} e =
    let after : r ≡ w.next = cc in
    (j, ap (list.one j) after, cc)
told-one l (list.refused n r) e = clash cc

-- a line that is refused, by the number of the refusal
pub told_refused : (l : ℕ) (x : list.Next) {w : rejected.Rejected} → told_next l x ≡ Err w
    → (n : ℕ) × (x ≡ list.refused n w.at) × (w.why ≡ in_line n l)
told_refused l list.end e = clash cc
told_refused l (list.one i r) e = clash cc
told_refused l (list.refused n r) {w} e =
    let place : r ≡ w.at = cc in
    (n, ap (list.refused n) place, cc)

-- ---- what is counted

-- what is known before a line is read: the lines that were read, up to this place, and the rows of their cycles
pub record Counted (t : List ℕ) (at lines n : ℕ) : Type 0 where
  pub done : List Instruction
  pub reached : Reached t done lines at
  pub rows : n ≡ rows_of_claims (map claim_of done)
  pub few : n ≤ suc out_last * lines

-- one line more, which is x, with m rows is counted, and it ends further on
pub record More (t : List ℕ) (at lines n : ℕ) (x : list.Next) (m : ℕ) : Type 0 where
  pub counted : Counted t (place_after at x) (lines_after lines x) (n + m)
  pub further : at < place_after at x
  pub small : m ≤ suc out_last

-- nothing was read
pub counted_start : (t : List ℕ) → Counted t 0 0 0
unfolding cycles_of
counted_start t = record { done = []; reached = reached-start t; rows = refl; few = omega arith }

module _ {t : List ℕ} {at lines n : ℕ} (k : Counted t at lines n) where
  -- at the end of the list the rows of all its lines are counted
  pub counted_end : (l : ℕ) → told_claimed l (next_line t at) ≡ Ok None → Ok n ≡ told_measured (read_list 1 t)
  counted_end l e = rw (reached_end k.reached (claimed_end l _ e), ← k.rows)

  -- the first line that is refused refuses the list, with its number
  pub counted_refused : {w : Refusal} → told_claimed (lines + 1) (next_line t at) ≡ Err w → Err w ≡ told_measured (read_list 1 t)
  counted_refused {w} e =
      let r = claimed_refused (lines + 1) _ e in
      let why : w ≡ in_line r.0 (suc lines) = r.3 ∙ ap (in_line r.0) (add-one lines) in
      let whole : told_measured (read_list 1 t) ≡ Err (in_line r.0 (suc lines)) = ap told_measured (reached_refused k.reached r.2) in
      cc

  -- one line more, whose claim has m rows
  pub counted_next : (l : ℕ) (c : code.Claim) (m : ℕ) → told_claimed l (next_line t at) ≡ Ok (Some c) → m ≡ suc (last_of (plain_claim c))
      → More t at lines n (next_line t at) m
  counted_next l c m e some =
      let r = claimed_one l _ e in
      let i : Instruction = r.0 in
      let next = reached_next k.reached r.2 in
      let its : m ≡ suc (last_of (claim_of i)) = some ∙ ap (λ (x : Claim). suc (last_of x)) (ap plain_claim r.3 ∙ claim_held (claim_of i)) in
      let more : More t at lines n (list.one i r.1) m = record {
        counted = record {
          done = k.done ++ (i ∷ []);
          reached = next.0;
          rows = rw (map-append, rows_snoc, its, k.rows);
          few = omega (arith, k.few, its, last_le (claim_of i));
        };
        further = next.1;
        small = omega (arith, its, last_le (claim_of i));
      } in
      subst (λ (x : list.Next). More t at lines n x m) (sym r.2) more
