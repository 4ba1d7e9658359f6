-- What the filler answers to a text that it refuses, in document 01's numbers.
use Prim.Native.Nat.{ℕ, ◌*◌}
use mathlib.Core.Bool.{Bool, true, false}
use mathlib.Core.List.{List, map}
use mathlib.Core.Path.{◌≡◌, refl}
use lib.Dec.{eqb, ltb}
use lib.ListN.{length}
use Rattle.number.specs.Tests.{pick}
use Rattle.number.proofs.TestLaws.{clash}
use Rattle.model.specs.Columns.{Cells, row_bytes}
use Rattle.model.specs.Trace.{trace}
use Rattle.model.specs.Verdict.{max_rows}
use Rattle.refusal.specs.Refusals.{list_too_long, no_empty_row, fill_too_long, buffer_short}
use Rattle.refusal.proofs.NumberLaws.{Kept, kept_in_line}
use Rattle.claim.specs.Claims.{claim_of}
use Rattle.list.specs.List.{Listed, instructions, refused_in, read_list}
use Rattle.list.proofs.ListLaws.{read_refused}
use Rattle.lines.specs.Lines.{max_list}
use Rattle.filler.specs.Fill.{written, refused, placed, filled, outcome}
use Rattle.filler.specs.Answer.{told, numbers}

-- refusals of one number and line are kept alike
alike : {m k n l : ℕ} → Kept m k → refused m k ≡ refused n l → Kept n l
alike {m} {k} {n} {l} s e =
    let number : m ≡ n = cc in
    let line : k ≡ l = cc in
    rw (number, line) at s

placed_kept : (room : ℕ) (rows : List Cells) {n l : ℕ} → placed room rows ≡ refused n l → Kept n l
unfolding placed
placed_kept room rows {n} {l} e = by (ltb max_rows (length rows)) (ltb room (length rows * row_bytes)) e
  where
    by : (a b : Bool) → pick a (refused fill_too_long 0) (pick b (refused buffer_short 0) (written rows)) ≡ refused n l → Kept n l
    by true b h = alike {m = fill_too_long} {k = 0} (refl, refl) h
    by false true h = alike {m = buffer_short} {k = 0} (refl, refl) h
    by false false h = clash cc

outcome_kept : (t : List ℕ) (empty room : ℕ) {n l : ℕ} → outcome t empty room ≡ refused n l → Kept n l
unfolding outcome
outcome_kept t empty room {n} {l} e = by (ltb max_list (length t)) (eqb empty 0) (read_list 1 t) refl e
  where
    by : (a b : Bool) (x : Listed) → read_list 1 t ≡ x
        → pick a (refused list_too_long 0) (pick b (refused no_empty_row 0) (filled empty room x)) ≡ refused n l → Kept n l
    by true b x f h = alike {m = list_too_long} {k = 0} (refl, refl) h
    by false true x f h = alike {m = no_empty_row} {k = 0} (refl, refl) h
    by false false (instructions is) f h = placed_kept room (trace empty (map claim_of is)) h
    by false false (refused_in m k q) f h =
        let few = read_refused 1 t f in
        alike (kept_in_line m k few.0 few.1) h

-- its number and its line are told, and 0 rows
pub refused_numbers : (t : List ℕ) (empty room : ℕ) {n l : ℕ} → outcome t empty room ≡ refused n l
    → numbers (told (outcome t empty room)) ≡ record { refused = n; line = l; rows = 0 }
refused_numbers t empty room e =
    let kept = outcome_kept t empty room e in
    rw e (λ i. record { refused = kept.0 i; line = kept.1 i; rows = 0 })
