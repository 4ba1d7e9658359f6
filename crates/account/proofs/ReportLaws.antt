-- The lines of a trace, row by row, and what is printed by what the filler does.
use Prim.Native.Nat.{ℕ, suc, ◌+◌, ◌*◌, ◌^◌, ◌<◌, ◌≤◌}
use mathlib.Core.Bool.{Bool, true, false}
use mathlib.Core.List.{List, [], ◌∷◌, ◌++◌, map, append_assoc, append-nil}
use mathlib.Core.Path.{◌≡◌, refl, sym, ◌∙◌, ap}
use native.Mathlib.Numerals.{add-one}
use native.Mathlib.Omega.{arith}
use borrow.Author.Tests.{lt-ltb, le-ltb}
use lib.ListN.{length, drop, length-append}
use Rattle.number.proofs.TestLaws.{clash}
use Rattle.model.specs.Columns.{Cells, row_bytes, row_at, table, bytes_of}
use Rattle.model.specs.Cycles.{Claim, Cycle, Counts, starts, cycles_from, cycles}
use Rattle.model.specs.Tests.{pick}
use Rattle.model.proofs.ExactlyOne.{claims-le}
use Rattle.model.proofs.FitLaws.{trace_fits}
use Rattle.model.proofs.ReadBack.{cycles_join}
use Rattle.model.proofs.RowBytes.{AllFit, length_bytes, rows_first}
use Rattle.model.proofs.TableOf.{table_snoc}
use Rattle.count.specs.declared.Counts.{Counts as Told}
use Rattle.refusal.specs.Refusals.{in_line, list_too_long, number, line}
use Rattle.refusal.specs.declared.Refusal.{Refusal}
use Rattle.claim.specs.Claims.{claim_of}
use Rattle.filler.specs.Answer.{told}
use Rattle.filler.specs.Fill.{Outcome, written, refused, outcome, buffer_after}
use Rattle.std.specs.Prelude.{Result, Ok, Err}
use Rattle.filler.proofs.Theorems.{fill_writes}
use Rattle.text.specs.Line.{refused_line}
use Rattle.account.specs.Report.{line_text, lines_text, total_text, account_text, account_bytes, account_empty, room_rows, done, printed, report}
use Rattle.account.specs.Room.{row_text, LinesPut}

-- the lines of joined cycles are those of each part
lines_join : (cs ds : List Cycle) → lines_text (cs ++ ds) ≡ lines_text cs ++ lines_text ds
unfolding lines_text
lines_join [] ds = refl
lines_join (c ∷ cs) ds = rw (lines_join cs ds) (sym (append_assoc (line_text c.row) (lines_text cs) (lines_text ds)))

-- the cycle that a row starts has the row's line
lines_one : (b : Bool) (c : Cycle) → lines_text (pick b (c ∷ []) []) ≡ pick b (line_text c.row) []
unfolding lines_text
lines_one true c = append-nil (line_text c.row)
lines_one false c = refl

-- one row more
lines_next : (r : ℕ → Cells) (i : ℕ) → lines_text (cycles (table (suc i) r)) ≡ lines_text (cycles (table i r)) ++ row_text (r i)
unfolding cycles_from
lines_next r i =
    rw (table_snoc i r, cycles_join 0 (table i r) (r i ∷ []), lines_join)
    (ap (λ (s : List ℕ). lines_text (cycles (table i r)) ++ s) (lines_one (starts (r i)) (record { first = 0 + length (table i r); row = r i })))

-- before the first row there is no line
pub put-none : (r : ℕ → Cells) → [] ≡ lines_text (cycles (table 0 r))
unfolding table cycles_from lines_text
put-none r = refl

-- what a row adds is put behind the lines of the rows before it
pub put_next : {m n : List ℕ} (r : ℕ → Cells) (i : ℕ) (x : Cells) → x ≡ r i
    → m ≡ lines_text (cycles (table i r)) → n ≡ m ++ row_text x → n ≡ lines_text (cycles (table (i + 1) r))
put_next r i x e p q = rw (add-one i, lines_next r i, ← e, ← p) q

-- the lines of rows, and behind them the last line with their counts, are all lines
pub account_put : {m n : List ℕ} {a : Told} (rows : List Cells) (count : ℕ) → count ≡ length rows → LinesPut rows m a
    → n ≡ m ++ total_text a.instructions a.oob count → n ≡ account_text rows
unfolding account_text
account_put rows count e p q =
    let instructions = ap (λ (c : Counts). c.instructions) p.counted in
    let oob = ap (λ (c : Counts). c.oob) p.counted in
    rw (e, instructions, oob, p.put) at q

-- ---- what is done with the bytes read

-- more bytes than are taken: refusal 1
pub done-long : (l : List ℕ) → account_bytes < length l → done l ≡ refused list_too_long 0
unfolding done
done-long l h = rw (lt-ltb account_bytes (length l) h)

-- else what the filler does
pub done-filled : (l : List ℕ) → length l ≤ account_bytes → done l ≡ outcome l account_empty (room_rows * row_bytes)
unfolding done
done-filled l h = rw (le-ltb account_bytes (length l) h)

-- the bytes m hold n rows, and the lines for them are those for the bytes read
pub record Accounted (l m : List ℕ) (n : ℕ) : Type 0 where
  pub room : n * row_bytes ≤ length m
  pub rows : n ≤ room_rows
  pub text : account_text (table n (row_at m)) ≡ report l

module _ {v : Result ℕ Refusal} (l b : List ℕ) (e : v ≡ told (outcome l account_empty (length b)))
    (taken : length l ≤ account_bytes) (room : length b ≡ room_rows * row_bytes) where
  -- where the filler has written rows
  pub written-report : {m : List ℕ} {n : ℕ} → v ≡ Ok n → m ≡ buffer_after (outcome l account_empty (length b)) b → Accounted l m n
  written-report {m} {n} f = by (outcome l account_empty (length b)) refl (sym e ∙ f)
    where
      by : (o : Outcome) → outcome l account_empty (length b) ≡ o → told o ≡ Ok n → m ≡ buffer_after o b → Accounted l m n
      by (refused k j) is h g = clash cc
      by (written rows) is h g =
          let w = fill_writes l account_empty b rows is in
          let cs : List Claim = map claim_of w.each in
          let few : length cs < 256 ^ 4 = omega (arith, claims-le account_empty cs, w.fits.rows) in
          let fit : AllFit rows = rw w.rows (trace_fits account_empty cs w.fits.valid few) in
          let rest : List ℕ = drop (length rows * row_bytes) b in
          let count : n ≡ length rows = cc in
          record {
            room = rw (count, g) (omega (arith, length_bytes rows, length-append (bytes_of rows) rest));
            rows = omega (arith, w.room, room);
            text = rw (count, g, rows_first rows rest fit, done-filled l taken, ← room, is) refl;
          }

  -- where it refuses
  pub refused_report : {r : Refusal} → v ≡ Err r → refused_line (number r) (line r) ≡ report l
  refused_report f = rw (done-filled l taken, ← room) (by (outcome l account_empty (length b)) (sym e ∙ f))
    where
      by : (o : Outcome) {r : Refusal} → told o ≡ Err r → refused_line (number r) (line r) ≡ printed o
      by (written rows) h = clash cc
      by (refused n k) {r} h =
          let same : r ≡ in_line n k = cc in
          rw same refl
