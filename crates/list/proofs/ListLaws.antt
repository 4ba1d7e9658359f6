-- A list is its lines: lines of the form that are instructions are read to these, in their order, whatever comes behind them; and a text that is a list is the
-- lines of some fields, with nothing else in it.
use Prim.Native.Nat.{ℕ, zero, suc, ◌+◌, ◌-◌, ◌≤◌, ◌<◌}
use mathlib.Core.Bool.{Bool, true, false}
use mathlib.Core.List.{List, [], ◌∷◌, ◌++◌, append-nil, map}
use mathlib.Core.Path.{◌≡◌, refl, sym, ◌∙◌, ap, subst}
use native.Mathlib.Nat.{add-zero, zero-add}
use native.Mathlib.Omega.{arith}
use borrow.Author.Tests.{leb-true, le-leb, lt-leb}
use lib.Dec.{leb}
use lib.ListN.{length, length-append}
use lib.Seq.{take_all}
use Rattle.number.specs.Tests.{pick}
use Rattle.number.proofs.TestLaws.{clash}
use Rattle.form.specs.Form.{Room, Stands}
use Rattle.form.specs.Read.{Read, got, stop, all_chars}
use Rattle.form.proofs.TextLaws.{chars_append, stands_split, stands_join, stands_take, take_stands}
use Rattle.model.specs.Promises.{Valid}
use Rattle.claim.specs.Claims.{claim_of}
use Rattle.claim.specs.Instruction as line
use Rattle.claim.specs.Instruction.{Fields, Instruction, Decoded, decode, Sized, Answer, cn_is_zero, op_not_listed, field_unused, instruction}
use Rattle.refusal.specs.Refusals.{not_of_form, cn_zero, not_listed, unused_field}
use Rattle.refusal.proofs.NumberLaws.{number_in_line, line_in_line}
use Rattle.claim.specs.Paper.{Decodes, none, more}
use Rattle.claim.proofs.ClaimLaws.{line_valid, decode_cases}
use Rattle.list.specs.Line.{LineRoom, print_line, read_line}
use Rattle.list.specs.List as list
use Rattle.list.specs.List.{Next, decided, before, next_of, next_line, Listed, instructions, refused_in, list_by, list_from, read_list, before_all, LinesRoom, print_lines}
use Rattle.list.specs.Told.{told_next, next_numbers}
use Rattle.list.proofs.LineLaws.{line_chars, line_some, read_printed, print_read, line_inside}

-- ---- one line

-- a line that is an instruction comes next
pub line_next : (t : List ℕ) (p : ℕ) {f : Fields} {i : Instruction} {q : ℕ} → read_line t p ≡ got f q → decode f ≡ line.decoded i
    → next_line t p ≡ list.one i q
unfolding next_line
line_next t p e d =
    let inside = line_inside t p e in
    rw (lt-leb (length t) p (omega arith), e, d)

-- what comes next and is an instruction is a line
pub next_line_lem : (t : List ℕ) (p : ℕ) {i : Instruction} {q : ℕ} → next_line t p ≡ list.one i q
    → (f : Fields) × (read_line t p ≡ got f q) × (decode f ≡ line.decoded i)
unfolding next_line
next_line_lem t p {i} {q} = by (leb (length t) p) (read_line t p) refl
  where
    decides : (f : Fields) (r : ℕ) (d : Decoded) → decode f ≡ d → decided r d ≡ list.one i q → (got f r ≡ got f q) × (decode f ≡ line.decoded i)
    decides f r (line.decoded j) e h = (cc, cc)
    decides f r (line.refused n) e h = clash cc

    by : (b : Bool) (r : Read Fields) → read_line t p ≡ r → pick b list.end (next_of r) ≡ list.one i q
        → (f : Fields) × (read_line t p ≡ got f q) × (decode f ≡ line.decoded i)
    by true r e h = clash cc
    by false (stop o) e h = clash cc
    by false (got f o) e h =
        let d = decides f o (decode f) refl h in
        (f, e ∙ d.0, d.1)

-- the list ends at the end of the text alone
pub end_next : (t : List ℕ) (p : ℕ) → next_line t p ≡ list.end → length t ≤ p
unfolding next_line
end_next t p = by (leb (length t) p) refl (read_line t p)
  where
    decides : (r : ℕ) (d : Decoded) → decided r d ≡ list.end → ⊥
    decides r (line.decoded j) h = clash cc
    decides r (line.refused n) h = clash cc

    by : (b : Bool) → leb (length t) p ≡ b → (r : Read Fields) → pick b list.end (next_of r) ≡ list.end → length t ≤ p
    by true e r h = leb-true (length t) p e
    by false e (stop o) h = clash cc
    by false e (got f o) h = absurd (decides o (decode f) h)

-- and there it does
pub next_end : (t : List ℕ) (p : ℕ) → length t ≤ p → next_line t p ≡ list.end
unfolding next_line
next_end t p h = rw (le-leb (length t) p h)

-- ---- lines, and what comes behind them

-- there are no more lines than characters
lines_some : (fs : List Fields) → length fs ≤ length (print_lines fs)
unfolding print_lines
lines_some [] = omega arith
lines_some (f ∷ fs) = omega (arith, line_some f, lines_some fs, length-append (print_line f) (print_lines fs))

-- and they hold characters only
lines_chars : (fs : List Fields) → all_chars (print_lines fs) ≡ true
unfolding print_lines
lines_chars [] = refl
lines_chars (f ∷ fs) = chars_append (print_line f) (print_lines fs) (line_chars f) (lines_chars fs)

-- instructions before others are all of them in their order, and before a refusal are the refusal
pub all_before : (is js : List Instruction) → before_all is (instructions js) ≡ instructions (is ++ js)
all_before [] js = refl
all_before (i ∷ is) js = rw (all_before is js)

-- before a refusal they are the refusal
pub all_refused : (is : List Instruction) {n l q : ℕ} → before_all is (refused_in n l q) ≡ refused_in n l q
all_refused [] = refl
all_refused (i ∷ is) = rw (all_refused is)

-- lines that are instructions are read to these, and then comes what stands behind them
pub lines_first : {fs : List Fields} {is : List Instruction} → Decodes fs is → LinesRoom fs → (k : ℕ) (t : List ℕ) (p l : ℕ) → Stands t p (print_lines fs)
    → list_from (length fs + k) t p l ≡ before_all is (list_from k t (p + length (print_lines fs)) (l + length fs))
unfolding print_lines list_from
lines_first none room k t p l st = rw (add-zero, add-zero, zero-add)
lines_first (more {f = f} {fs = fs} e d) room k t p l st =
    let parts = stands_split t p (print_line f) (print_lines fs) st in
    let here = line_next t p (read_printed t p f room.0 parts.0) e in
    let rest = lines_first d room.1 k t (p + length (print_line f)) (suc l) parts.1 in
    let places : p + length (print_line f ++ print_lines fs) ≡ p + length (print_line f) + length (print_lines fs) =
    omega (arith, length-append (print_line f) (print_lines fs)) in
    let numbers : l + suc (length fs) ≡ suc l + length fs = omega arith in
    let fuel : suc (length fs) + k ≡ suc (length fs + k) = omega arith in
    rw (fuel, list_from, here, places, numbers, rest)

-- at the end of the text there are no more instructions
list_ends : (k : ℕ) (t : List ℕ) (p l : ℕ) → length t ≤ p → list_from (suc k) t p l ≡ instructions []
unfolding list_from
list_ends k t p l h = rw (next_end t p h)

-- so a list of such lines alone is its instructions
pub list_of_lines : {fs : List Fields} {is : List Instruction} → Decodes fs is → LinesRoom fs → (l : ℕ)
    → read_list l (print_lines fs) ≡ instructions is
unfolding read_list
list_of_lines {fs} {is} d room l =
    let t : List ℕ = print_lines fs in
    let few : length fs ≤ length t = lines_some fs in
    let left : ℕ = length t - length fs in
    let whole : Stands t 0 t = take_stands t 0 t (take_all (length t) t (omega arith)) in
    ap (λ (k : ℕ). list_from k t 0 l) (omega arith)
    ∙ lines_first d room (suc left) t 0 l whole
    ∙ ap (before_all is) (list_ends left t (0 + length t) (l + length fs) (omega arith))
    ∙ all_before is []
    ∙ ap instructions (append-nil is)

-- the first line that is refused is what the list is refused for, with its number, whatever comes behind it
pub first_refused : {fs : List Fields} {is : List Instruction} → Decodes fs is → LinesRoom fs → (k : ℕ) (t : List ℕ) (p l : ℕ) {n q : ℕ} → Stands t p (print_lines fs)
    → next_line t (p + length (print_lines fs)) ≡ list.refused n q → list_from (length fs + suc k) t p l ≡ refused_in n (l + length fs) q
unfolding list_from
first_refused {is = is} d room k t p l st e = rw (lines_first d room (suc k) t p l st, list_from, e, all_refused is)

-- a line is refused with a number from 3 to 6
refused_by : {f : Fields} {d : Decoded} (n : ℕ) → Answer f d → d ≡ line.refused n → (3 ≤ n) × (n ≤ 6)
refused_by n (cn_is_zero z) e = let same : cn_zero ≡ n = cc in (omega arith, omega arith)
refused_by n (op_not_listed s z) e = let same : not_listed ≡ n = cc in (omega arith, omega arith)
refused_by n (field_unused s k z) e = let same : unused_field ≡ n = cc in (omega arith, omega arith)
refused_by n (instruction s k z) e = clash cc

next_refused : (t : List ℕ) (p : ℕ) {n q : ℕ} → next_line t p ≡ list.refused n q → (3 ≤ n) × (n ≤ 6)
unfolding next_line
next_refused t p {n} {q} = by (leb (length t) p) (read_line t p)
  where
    decides : (f : Fields) (r : ℕ) (d : Decoded) → decode f ≡ d → decided r d ≡ list.refused n q → (3 ≤ n) × (n ≤ 6)
    decides f r (line.decoded j) e h = clash cc
    decides f r (line.refused m) e h = refused_by n ((decode_cases f (line.refused m)).0 e) cc

    by : (b : Bool) (r : Read Fields) → pick b list.end (next_of r) ≡ list.refused n q → (3 ≤ n) × (n ≤ 6)
    by true r h = clash cc
    by false (stop o) h = let same : not_of_form ≡ n = cc in (omega arith, omega arith)
    by false (got f o) h = decides f o (decode f) refl h

-- what `next_line` answers to a refused line, in document 01's numbers
pub refused_numbers : (t : List ℕ) (at l : ℕ) {n q : ℕ} → next_line t at ≡ list.refused n q
    → next_numbers (told_next l (next_line t at)) ≡ record { refused = n; line = l; at = q }
refused_numbers t at l {n} {q} e =
    let m = next_refused t at e in
    let number = number_in_line n l (omega (arith, m.0)) (omega (arith, m.1)) in
    let line = line_in_line n l m.0 m.1 in
    rw e (λ i. record { refused = number i; line = line i; at = q })

-- a list is refused with the number of one of its lines
list_refused : (k : ℕ) (t : List ℕ) (p l : ℕ) {n m q : ℕ} → list_from k t p l ≡ refused_in n m q → (3 ≤ n) × (n ≤ 6)
unfolding list_from
list_refused zero t p l e = clash cc
list_refused (suc k) t p l {n} {m} {q} e = by (next_line t p) refl e (λ r. list_refused k t r (suc l))
  where
    inner : (i : Instruction) (x : Listed) → before i x ≡ refused_in n m q → x ≡ refused_in n m q
    inner i (instructions is) h = clash cc
    inner i (refused_in a b r) h = h

    by : (x : Next) → next_line t p ≡ x → list_by l (λ r. list_from k t r (suc l)) x ≡ refused_in n m q
        → ((r : ℕ) → list_from k t r (suc l) ≡ refused_in n m q → (3 ≤ n) × (n ≤ 6)) → (3 ≤ n) × (n ≤ 6)
    by list.end h f later = clash cc
    by (list.one i r) h f later = later r (inner i (list_from k t r (suc l)) f)
    by (list.refused a r) h f later =
        let same : a ≡ n = cc in
        let few = next_refused t p h in
        (omega (arith, few.0), omega (arith, few.1))

pub read_refused : (first : ℕ) (t : List ℕ) {n m q : ℕ} → read_list first t ≡ refused_in n m q → (3 ≤ n) × (n ≤ 6)
unfolding read_list
read_refused first t e = list_refused (suc (length t)) t 0 first e

-- ---- a list is lines

-- a text that is a list from place p on is lines from there to its end
lines_from : (k : ℕ) (t : List ℕ) (p l : ℕ) (is : List Instruction) → p ≤ length t → length t < k + p → list_from k t p l ≡ instructions is
    → (fs : List Fields) × LinesRoom fs × Decodes fs is × Stands t p (print_lines fs) × (p + length (print_lines fs) ≡ length t)
unfolding list_from print_lines
lines_from zero t p l is inside fuel e = absurd (omega arith)
lines_from (suc k) t p l is inside fuel e = by (next_line t p) refl e (λ q. lines_from k t q (suc l))
  where
    Lines : ℕ → List Instruction → Type 0
    Lines q js = (fs : List Fields) × LinesRoom fs × Decodes fs js × Stands t q (print_lines fs) × (q + length (print_lines fs) ≡ length t)

    after : (i : Instruction) (q : ℕ) → next_line t p ≡ list.one i q → (x : Listed) → list_from k t q (suc l) ≡ x → before i x ≡ instructions is
        → ((js : List Instruction) → q ≤ length t → length t < k + q → list_from k t q (suc l) ≡ instructions js → Lines q js) → Lines p is
    after i q n (instructions js) e h rest =
        let m = next_line_lem t p n in
        let r = line_inside t p m.1 in
        let printed = print_read t p m.1 in
        let rs = rest js r.1 (omega (arith, r.0)) e in
        let same : i ∷ js ≡ is = cc in
        let behind : Stands t (p + length (print_line m.0)) (print_lines rs.0) =
        subst (λ (x : ℕ). Stands t x (print_lines rs.0)) printed.2 rs.3 in (
          m.0 ∷ rs.0,
          (printed.0, rs.1),
          rw (← same) (more m.2 rs.2),
          stands_join t p (print_line m.0) (print_lines rs.0) printed.1 behind,
          rw length-append (omega (arith, printed.2, rs.4)),
        )
    after i q n (refused_in m o r) e h rest = clash cc

    by : (x : Next) → next_line t p ≡ x → list_by l (λ q. list_from k t q (suc l)) x ≡ instructions is
        → ((q : ℕ) (js : List Instruction) → q ≤ length t → length t < k + q → list_from k t q (suc l) ≡ instructions js → Lines q js) → Lines p is
    by list.end n h rest =
        let empty : [] ≡ is = cc in
        ([], tt, rw (← empty) none, tt, omega (arith, end_next t p n))
    by (list.one i q) n h rest = after i q n (list_from k t q (suc l)) refl h (rest q)
    by (list.refused m q) n h rest = clash cc

-- a text that is a list is the lines of some fields, and these are its instructions
pub lines_of_list : (l : ℕ) (t : List ℕ) (is : List Instruction) → read_list l t ≡ instructions is
    → (fs : List Fields) × LinesRoom fs × Decodes fs is × (t ≡ print_lines fs)
unfolding read_list
lines_of_list l t is e =
    let r = lines_from (suc (length t)) t 0 l is (omega arith) (omega arith) e in
    let s : List ℕ = print_lines r.0 in
    (r.0, r.1, r.2, sym (take_all (length s) t (omega (arith, r.4))) ∙ stands_take t 0 s (lines_chars r.0) r.3)

-- ---- its claims

-- fields with room in a line are as wide as document 01 says
line_sized : (f : Fields) → LineRoom f → Sized f
unfolding Room
line_sized f h = record { cn = h.0; op = h.1.0; at1 = h.1.1.0; len1 = h.1.1.1.0; at2 = h.1.1.1.1.0; len2 = h.1.1.1.1.1.0 }

lines_valid : {fs : List Fields} {is : List Instruction} → Decodes fs is → LinesRoom fs → Valid (map claim_of is)
lines_valid none room = tt
lines_valid (more {f = f} e d) room = (line_valid (line_sized f room.0) e, lines_valid d room.1)

-- the claims of a list are such as a trace can carry
pub list_valid : (l : ℕ) (t : List ℕ) (is : List Instruction) → read_list l t ≡ instructions is → Valid (map claim_of is)
list_valid l t is e =
    let r = lines_of_list l t is e in
    lines_valid r.2 r.1
