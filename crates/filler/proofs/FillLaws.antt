-- What the filler does with a text and with the rows of its trace, case by case; and the buffer after the empty rows and the cycles were stored.
use Prim.Native.Nat.{ℕ, ◌+◌, ◌*◌, ◌-◌, ◌≤◌, ◌<◌}
use mathlib.Core.Bool.{Bool, true, false}
use mathlib.Core.List.{List, ◌++◌, map}
use mathlib.Core.Path.{◌≡◌, refl, sym, ◌∙◌, ap}
use native.Mathlib.Nat.{zero-add, ne_of_gt, pos_of_ne-zero}
use native.Mathlib.Omega.{arith}
use borrow.Author.Tests.{eq-eqb, ne_eqb, eqb-false, lt-ltb, le-ltb, ltb-false}
use lib.Dec.{eqb, ltb}
use lib.ListN.{length, take, drop, replicate, length-replicate}
use lib.Seq.{sets, sets-eq, take_at}
use Rattle.std.specs.Prelude.{Ok, Err}
use Rattle.number.specs.Tests.{pick}
use Rattle.number.proofs.StoreLaws.{sets-append}
use Rattle.number.proofs.TestLaws.{clash}
use Rattle.model.specs.Columns.{Cells, empty_row, row_bytes, bytes_of}
use Rattle.model.specs.Cycles.{Claim}
use Rattle.model.specs.State.{fresh}
use Rattle.model.specs.Trace.{cycles_of, trace}
use Rattle.model.specs.Verdict.{max_rows}
use Rattle.model.proofs.JoinLaws.{length-trace}
use Rattle.model.proofs.RowBytes.{length_bytes, bytes_append}
use Rattle.refusal.specs.Refusals.{in_line, list_too_long, no_empty_row, fill_too_long, buffer_short}
use Rattle.refusal.specs.declared.Refusal.{Refusal}
use Rattle.claim.specs.Claims.{claim_of}
use Rattle.claim.specs.Instruction.{Instruction}
use Rattle.list.specs.List.{Listed, instructions, refused_in, read_list}
use Rattle.lines.specs.Lines.{max_list, rows_of_claims, Lists, claims_listed, list_claims, told_measured}
use Rattle.filler.specs.Fill.{written, refused, placed, filled, outcome, buffer_after}

-- ---- a text

module _ (t : List ℕ) (empty room : ℕ) where
  -- a text that is too long is refused with 1
  pub outcome-long : max_list < length t → outcome t empty room ≡ refused list_too_long 0
  unfolding outcome
  outcome-long h = rw (lt-ltb max_list (length t) h)

  module _ (short : length t ≤ max_list) where
    -- any other without an empty row, with 2
    pub outcome-none : empty ≡ 0 → outcome t empty room ≡ refused no_empty_row 0
    unfolding outcome
    outcome-none e = rw (le-ltb max_list (length t) short, eq-eqb empty 0 e)

    module _ (some : 0 < empty) where
      -- any other is read
      pub outcome_read : outcome t empty room ≡ filled empty room (read_list 1 t)
      unfolding outcome
      outcome_read = rw (le-ltb max_list (length t) short, ne_eqb empty 0 (ne_of_gt some))

      -- where its first reading is a refusal, this is the answer
      pub outcome_refused : {w : Refusal} → told_measured (read_list 1 t) ≡ Err w
          → (n : ℕ) × (l : ℕ) × (outcome t empty room ≡ refused n l) × (w ≡ in_line n l)
      outcome_refused {w} = by (read_list 1 t) refl
        where
          by : (x : Listed) → read_list 1 t ≡ x → told_measured x ≡ Err w → (n : ℕ) × (l : ℕ) × (outcome t empty room ≡ refused n l) × (w ≡ in_line n l)
          by (instructions is) e h = clash cc
          by (refused_in n l at) e h = (n, l, outcome_read ∙ ap (filled empty room) e, cc)

      -- where it is a list, the trace of its claims is placed
      pub outcome_lists : Lists t → outcome t empty room ≡ placed room (trace empty (list_claims t))
      outcome_lists h = rw (outcome_read, h.read)

-- a text whose reading counts rows is a list, and its cycles have these rows
pub measured_lists : (t : List ℕ) {n : ℕ} → told_measured (read_list 1 t) ≡ Ok n → Lists t × (n ≡ rows_of_claims (list_claims t))
measured_lists t {n} = by (read_list 1 t) refl
  where
    by : (x : Listed) → read_list 1 t ≡ x → told_measured x ≡ Ok n → Lists t × (n ≡ rows_of_claims (claims_listed x))
    by (instructions is) e h = (record { each = is; read = e }, cc)
    by (refused_in m l at) e h = clash cc

-- ---- rows for a buffer of so many bytes

module _ (room : ℕ) (rows : List Cells) where
  -- more than a trace may have are refused with 7
  pub placed-long : max_rows < length rows → placed room rows ≡ refused fill_too_long 0
  unfolding placed
  placed-long h = rw (lt-ltb max_rows (length rows) h)

  -- others, for which it is short, with 8
  pub placed_short : length rows ≤ max_rows → room < length rows * row_bytes → placed room rows ≡ refused buffer_short 0
  unfolding placed
  placed_short h s = rw (le-ltb max_rows (length rows) h, lt-ltb room (length rows * row_bytes) s)

  -- all others are written
  pub placed-written : length rows ≤ max_rows → length rows * row_bytes ≤ room → placed room rows ≡ written rows
  unfolding placed
  placed-written h s = rw (le-ltb max_rows (length rows) h, le-ltb room (length rows * row_bytes) s)

  -- and where rows are written they are these, and there is room for them
  pub written-placed : {out : List Cells} → placed room rows ≡ written out → (out ≡ rows) × (length rows ≤ max_rows) × (length rows * row_bytes ≤ room)
  unfolding placed
  written-placed {out} = by (ltb max_rows (length rows)) (ltb room (length rows * row_bytes)) refl refl
    where
      by : (a b : Bool) → ltb max_rows (length rows) ≡ a → ltb room (length rows * row_bytes) ≡ b
          → pick a (refused fill_too_long 0) (pick b (refused buffer_short 0) (written rows)) ≡ written out
          → (out ≡ rows) × (length rows ≤ max_rows) × (length rows * row_bytes ≤ room)
      by true b p q h = clash cc
      by false true p q h = clash cc
      by false false p q h = (cc, ltb-false max_rows (length rows) p, ltb-false room (length rows * row_bytes) q)

-- ---- a text whose rows are written

-- what is known of it: it is a list, there is an empty row, and the rows are the trace of its claims, for which there is room
pub record Read (t : List ℕ) (empty room : ℕ) (out : List Cells) : Type 0 where
  pub each : List Instruction
  pub list : read_list 1 t ≡ instructions each
  pub some : 0 < empty
  pub trace : out ≡ trace empty (map claim_of each)
  pub rows : length out ≤ max_rows
  pub enough : length out * row_bytes ≤ room

-- this is known of every such text
pub written_read : (t : List ℕ) (empty room : ℕ) {out : List Cells} → outcome t empty room ≡ written out → Read t empty room out
unfolding outcome
written_read t empty room {out} = by (ltb max_list (length t)) (eqb empty 0) (read_list 1 t) refl refl
  where
    by : (a b : Bool) (x : Listed) → eqb empty 0 ≡ b → read_list 1 t ≡ x
        → pick a (refused list_too_long 0) (pick b (refused no_empty_row 0) (filled empty room x)) ≡ written out → Read t empty room out
    by true b x p q h = clash cc
    by false true x p q h = clash cc
    by false false (refused_in n l at) p q h = clash cc
    by false false (instructions is) p q h =
        let w = written-placed room (trace empty (map claim_of is)) h in
        record {
          each = is;
          list = q;
          some = pos_of_ne-zero (eqb-false empty 0 p);
          trace = w.0;
          rows = rw w.0 w.1;
          enough = rw w.0 w.2;
        }

-- ---- the trace of claims, by the rows of their cycles

module _ (room empty n : ℕ) (cs : List Claim) (rows : n ≡ rows_of_claims cs) (some : 0 < empty) where
  -- more empty rows than a trace has left
  pub too_many : max_rows - n < empty → placed room (trace empty cs) ≡ refused fill_too_long 0
  too_many h = placed-long room (trace empty cs) (omega (arith, length-trace empty cs))

  -- no more than it has left, but the buffer is short
  pub too_short : empty ≤ max_rows - n → room < (empty + n) * row_bytes → placed room (trace empty cs) ≡ refused buffer_short 0
  too_short h s = placed_short room (trace empty cs) (omega (arith, length-trace empty cs)) (omega (arith, length-trace empty cs))

  -- and where it is not
  pub there_is_room : empty ≤ max_rows - n → (empty + n) * row_bytes ≤ room → placed room (trace empty cs) ≡ written (trace empty cs)
  there_is_room h s = placed-written room (trace empty cs) (omega (arith, length-trace empty cs)) (omega (arith, length-trace empty cs))

-- ---- the buffer

-- the bytes of a trace, stored at the start of a buffer with room for them: the later bytes stay
stored : (l : List ℕ) (rows : List Cells) → length rows * row_bytes ≤ length l → sets l 0 (bytes_of rows) ≡ buffer_after (written rows) l
stored l rows h = rw (sets-eq (bytes_of rows) l 0 (omega (arith, length_bytes rows)), zero-add, length_bytes)

-- empty rows, once they are stored, are the first bytes
pub empty_stored : {m : List ℕ} (l : List ℕ) (n : ℕ) → n * row_bytes ≤ length l → m ≡ sets l 0 (bytes_of (replicate n empty_row))
    → take (n * row_bytes) m ≡ bytes_of (replicate n empty_row)
empty_stored l n h e =
    let rows : List Cells = replicate n empty_row in
    let count : length rows ≡ n = length-replicate n empty_row in
    rw (e, stored l rows (rw count h)) (take_at (bytes_of rows) (drop (length rows * row_bytes) l) (n * row_bytes) (rw count at (length_bytes rows)))

-- the empty rows, then the cycles
pub filled_buffer : {m k : List ℕ} (l : List ℕ) (empty : ℕ) (cs : List Claim) → (empty + rows_of_claims cs) * row_bytes ≤ length l
    → m ≡ sets l 0 (bytes_of (replicate empty empty_row)) → k ≡ sets m (empty * row_bytes) (bytes_of (cycles_of 1 fresh cs))
    → k ≡ buffer_after (written (trace empty cs)) l
unfolding trace
filled_buffer {m} {k} l empty cs h e f =
    let first : List Cells = replicate empty empty_row in
    let place : empty * row_bytes ≡ 0 + length (bytes_of first) = rw (length_bytes, length-replicate, zero-add) in
    let both : k ≡ sets l 0 (bytes_of first ++ bytes_of (cycles_of 1 fresh cs)) = rw (place, e) at f ∙ sets-append l 0 (bytes_of first) (bytes_of (cycles_of 1 fresh cs)) in
    both ∙ ap (sets l 0) (sym (bytes_append first (cycles_of 1 fresh cs))) ∙ stored l (trace empty cs) (omega (arith, length-trace empty cs))
