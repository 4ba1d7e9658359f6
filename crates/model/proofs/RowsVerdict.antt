-- The verdict on the bytes of rows that fit is the judgement on the rows.
use Prim.Native.Nat.{ℕ, ◌/◌, ◌<◌, ◌≤◌}
use mathlib.Core.List.{List}
use mathlib.Core.Path.{◌≡◌, refl, sym, ◌∙◌, ap, ap₂}
use native.Mathlib.Omega.{arith}
use lib.ListN.{length}
use Rattle.model.specs.Columns.{Cells, row_in, row_bytes, row_at, bytes_of}
use Rattle.model.specs.Cycles.{counts}
use Rattle.model.specs.Promises.{WellSized}
use Rattle.model.specs.Verdict.{broken_at, judged_rows, max_rows, verdict_by, verdict}
use Rattle.model.proofs.JudgeLaws.{judged_local}
use Rattle.model.proofs.RowBytes.{AllFit, length_rows, length_bytes, row_back, rows_back}
use Rattle.model.proofs.VerdictLaws.{first_broken_local, sized_verdict}

module _ (rows : List Cells) (fit : AllFit rows) (some : 0 < length rows) (room : length rows ≤ max_rows) where
  abbrev l : List ℕ
  l = bytes_of rows

  rows_length : length l / row_bytes ≡ length rows
  rows_length = sym (length_rows l) ∙ ap length (rows_back rows fit)

  sized : WellSized l
  sized = record { some = omega (arith, length_bytes rows); whole = omega (arith, length_bytes rows); rows = rw rows_length room }

  broken_same : (i : ℕ) → i < length rows → broken_at (row_at l) (length rows) i ≡ broken_at (row_in rows) (length rows) i
  broken_same i h = first_broken_local (row_at l) (row_in rows) (length rows) (length rows) i (λ j k. row_back rows j fit (omega arith)) refl

  pub verdict_of_rows : verdict l ≡ verdict_by (judged_rows rows) (counts rows)
  verdict_of_rows =
      let same = judged_local (broken_at (row_at l) (length rows)) (broken_at (row_in rows) (length rows)) (length rows) broken_same in
      rw rows_length at (sized_verdict l sized) ∙ ap₂ verdict_by same (ap counts (rows_back rows fit))
