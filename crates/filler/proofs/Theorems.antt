-- What is promised of the filler, over what it does with a text (`outcome`) and what the buffer holds afterwards (`buffer_after`): its contract says that
-- the answer and the buffer are these.
use Prim.Native.Nat.{ℕ, suc, ◌+◌, ◌*◌, ◌≤◌, ◌<◌}
use mathlib.Core.List.{List, map}
use mathlib.Core.Path.{◌≡◌, sym, ◌∙◌, ap}
use native.Mathlib.Nat.{le_of_eq}
use native.Mathlib.Omega.{arith}
use lib.ListN.{length, get_or, take, drop}
use lib.Seq.{take_at, drop_at}
use Rattle.model.specs.Columns.{Cells, row_bytes, row_at, rows_of, bytes_of}
use Rattle.model.specs.Cycles.{Claim, instruction, instruction_claim}
use Rattle.model.specs.Promises.{Fits, count_in, count_out, counts_of, claims_in, Carries}
use Rattle.model.specs.Trace.{last_of, trace, trace_bytes}
use Rattle.model.specs.Verdict.{max_rows, full_count, accepted, verdict}
use Rattle.model.proofs.ExactlyOne.{trace_accepted, trace_carries, exactly_one}
use Rattle.model.proofs.JoinLaws.{full_trace}
use Rattle.model.proofs.RowBytes.{length_bytes}
use Rattle.refusal.specs.Refusals.{list_too_long, no_empty_row, fill_too_long, buffer_short}
use Rattle.claim.specs.Claims.{claim_of}
use Rattle.claim.specs.Instruction.{Fields, Instruction}
use Rattle.claim.specs.Paper.{Decodes, LineByPaper}
use Rattle.claim.proofs.PaperLaws.{lines_by_paper}
use Rattle.list.specs.List.{instructions, refused_in, read_list, LinesRoom, print_lines}
use Rattle.list.proofs.ListLaws.{list_of_lines, lines_of_list, list_valid}
use Rattle.lines.specs.Lines.{max_list}
use Rattle.filler.specs.Fill.{written, refused, outcome, buffer_after}
use Rattle.filler.proofs.FillLaws.{outcome-long, outcome-none, outcome_read, placed-long, placed_short, placed-written, written_read}

-- ---- what is written

-- the bytes of the rows in the buffer
abbrev pub written_bytes : List Cells → List ℕ → List ℕ
written_bytes rows buf = take (length rows * row_bytes) (buffer_after (written rows) buf)

-- what is so where rows were written: the text is lines of the form, each of them an instruction; the rows are the trace of these instructions' claims
-- after the empty rows, and the buffer has room for them; the bytes of the trace stand at its start, and its later bytes stay
pub record Wrote (t : List ℕ) (empty : ℕ) (buf : List ℕ) (out : List Cells) : Type 0 where
  pub fields : List Fields
  pub each : List Instruction
  pub text : t ≡ print_lines fields
  pub lines : Decodes fields each
  pub fits : Fits empty (map claim_of each)
  pub rows : out ≡ trace empty (map claim_of each)
  pub room : length out * row_bytes ≤ length buf
  pub bytes : written_bytes out buf ≡ trace_bytes empty (map claim_of each)
  pub later : drop (length out * row_bytes) (buffer_after (written out) buf) ≡ drop (length out * row_bytes) buf

-- wherever rows are written, this is so
pub fill_writes : (t : List ℕ) (empty : ℕ) (buf : List ℕ) (out : List Cells) → outcome t empty (length buf) ≡ written out → Wrote t empty buf out
unfolding trace_bytes
fill_writes t empty buf out e =
    let r = written_read t empty (length buf) e in
    let l = lines_of_list 1 t r.each r.list in
    let long = length_bytes out in
    let rest : List ℕ = drop (length out * row_bytes) buf in
    record {
      fields = l.0;
      each = r.each;
      text = l.3;
      lines = l.2;
      fits = record { some = r.some; valid = list_valid 1 t r.each r.list; rows = rw (← r.trace) r.rows };
      rows = r.trace;
      room = r.enough;
      bytes = take_at (bytes_of out) rest (length out * row_bytes) long ∙ ap bytes_of r.trace;
      later = drop_at (bytes_of out) rest (length out * row_bytes) long;
    }

module _ {t : List ℕ} {empty : ℕ} {buf : List ℕ} {out : List Cells} (w : Wrote t empty buf out) where
  -- the claims of the list
  abbrev its : List Claim
  its = map claim_of w.each

  -- the checker accepts what was written, with the counts of the list's claims and of the empty rows
  pub fill_accepted : verdict (written_bytes out buf) ≡ accepted (counts_of empty its)
  fill_accepted = rw w.bytes (trace_accepted empty its w.fits)

  -- it carries just these empty rows and claims
  pub fill_carries : Carries empty its (written_bytes out buf)
  fill_carries = rw w.bytes (trace_carries empty its w.fits)

  -- the claims that are read back from it are those of the list
  pub fill_claims : claims_in (written_bytes out buf) ≡ its
  fill_claims = fill_carries.claims

  -- whoever else fills it: bytes that are accepted with these empty rows and claims are the same
  pub fill_only : (l : List ℕ) → Carries empty its l → l ≡ written_bytes out buf
  fill_only l c = (exactly_one empty its w.fits).1 l c ∙ sym w.bytes

  -- each row of line k (from 0) has the words and the gas of the Yellow Paper, over the lines of its own context up to it
  pub fill_by_paper : (k : ℕ) (f : Fields) → k < length w.fields → (j : ℕ) → j ≤ last_of (instruction_claim (written_bytes out buf) (suc k))
      → LineByPaper (row_at (written_bytes out buf) ((instruction (rows_of (written_bytes out buf)) (suc k)).first + j)) (take k w.fields) (get_or w.fields k f)
  fill_by_paper = lines_by_paper w.fields w.each w.lines (written_bytes out buf) empty fill_carries

-- ---- what is refused

-- on a refusal lent bytes stay
pub refused_stays : (t : List ℕ) (empty : ℕ) (buf : List ℕ) {n l : ℕ} → outcome t empty (length buf) ≡ refused n l
    → buffer_after (outcome t empty (length buf)) buf ≡ buf
refused_stays t empty buf e = rw e

-- the order is the number: 1, whatever else is wrong; then 2; then the first line that is refused; then 7; then 8; else the trace is written
pub record InOrder (t : List ℕ) (empty room : ℕ) : Type 0 where
  pub one : max_list < length t → outcome t empty room ≡ refused list_too_long 0
  pub two : length t ≤ max_list → empty ≡ 0 → outcome t empty room ≡ refused no_empty_row 0
  pub line : length t ≤ max_list → 0 < empty → (n l at : ℕ) → read_list 1 t ≡ refused_in n l at → outcome t empty room ≡ refused n l
  pub seven : length t ≤ max_list → 0 < empty → (is : List Instruction) → read_list 1 t ≡ instructions is
      → max_rows < length (trace empty (map claim_of is)) → outcome t empty room ≡ refused fill_too_long 0
  pub eight : length t ≤ max_list → 0 < empty → (is : List Instruction) → read_list 1 t ≡ instructions is
      → length (trace empty (map claim_of is)) ≤ max_rows → room < length (trace empty (map claim_of is)) * row_bytes
      → outcome t empty room ≡ refused buffer_short 0
  pub else : length t ≤ max_list → 0 < empty → (is : List Instruction) → read_list 1 t ≡ instructions is
      → length (trace empty (map claim_of is)) ≤ max_rows → length (trace empty (map claim_of is)) * row_bytes ≤ room
      → outcome t empty room ≡ written (trace empty (map claim_of is))

-- for every text, count of empty rows and buffer
pub fill_in_order : (t : List ℕ) (empty room : ℕ) → InOrder t empty room
fill_in_order t empty room = record {
  one = outcome-long t empty room;
  two = outcome-none t empty room;
  line = λ short some n l at e. rw (outcome_read t empty room short some, e);
  seven = λ short some is e h. rw (outcome_read t empty room short some, e) (placed-long room (trace empty (map claim_of is)) h);
  eight = λ short some is e h k. rw (outcome_read t empty room short some, e) (placed_short room (trace empty (map claim_of is)) h k);
  else = λ short some is e h k. rw (outcome_read t empty room short some, e) (placed-written room (trace empty (map claim_of is)) h k);
}

-- ---- what is filled

-- lines of the form that are instructions are filled, where their claims fit a trace and the buffer has room for it
pub fill_of_lines : {fs : List Fields} {is : List Instruction} → Decodes fs is → LinesRoom fs → length (print_lines fs) ≤ max_list → (empty room : ℕ)
    → Fits empty (map claim_of is) → length (trace empty (map claim_of is)) * row_bytes ≤ room
    → outcome (print_lines fs) empty room ≡ written (trace empty (map claim_of is))
fill_of_lines {fs} {is} d widths short empty room f h =
    (fill_in_order (print_lines fs) empty room).else short f.some is (list_of_lines d widths 1) f.rows h

-- ---- full sizes

-- 21,845 in-bounds instructions and one empty row fill 65,536 rows; one more is refusal 7
pub full_fill : (t : List ℕ) (is : List Instruction) (room : ℕ) → length t ≤ max_list → read_list 1 t ≡ instructions is → count_out (map claim_of is) ≡ 0
    → (count_in (map claim_of is) ≡ full_count → max_rows * row_bytes ≤ room
    → (outcome t 1 room ≡ written (trace 1 (map claim_of is))) × (length (trace 1 (map claim_of is)) ≡ max_rows))
    × (full_count < count_in (map claim_of is) → outcome t 1 room ≡ refused fill_too_long 0)
full_fill t is room short e none =
    let full = full_trace (map claim_of is) none in
    let order = fill_in_order t 1 room in (
      λ many h. (order.else short (omega arith) is e (le_of_eq (full.0 many)) (rw (full.0 many) h), full.0 many),
      λ more. order.seven short (omega arith) is e (full.1 more),
    )
