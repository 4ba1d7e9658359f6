-- The answers of the calls over a trace, and document 01's numbers for each case.
use Rattle.std.specs.Prelude.{ℕ, ◌*◌, List, Option, Some, None, Result, Ok, Err}
use Rattle.std.specs.Borrow.{Bor}
use Rattle.number.specs.Whole.{val}
use Rattle.model.specs.Columns.{row_bytes}
use Rattle.model.specs.Cycles as model
use Rattle.refusal.specs.Refusals.{number, line, lineless}
use Rattle.refusal.specs.declared.Refusal.{Refusal}
use Rattle.claim.specs.Told.{told_claim}
use Rattle.claim.specs.declared.claim.Claim.{Claim}
use Rattle.count.specs.Counts.{told_counts}
use Rattle.count.specs.declared.Counts.{Counts}
use Rattle.trace.specs.Asked.{Answer, given, refused, part_of}
use Rattle.trace.specs.declared.place.Place.{Place}

-- why a call refuses; nothing where it answers
abbrev pub refusal_of : {A : Type 0} → Answer A → Option Refusal
refusal_of (given a) = None
refusal_of (refused n) = Some (lineless n)

-- the counts of an accepted trace
abbrev pub told_admitted : Answer model.Counts → Result Counts Refusal
told_admitted (given c) = Ok (told_counts c)
told_admitted (refused n) = Err (lineless n)

-- ---- where instruction k stands

-- its first row and how many rows it has
abbrev pub told_place : Answer model.Cycle → Result Place Refusal
told_place (given c) = Ok (record { first = c.first; rows = model.rows_in c })
told_place (refused n) = Err (lineless n)

-- the numbers of a refusal, the first byte of the instruction's part of the trace, and the part's length in bytes
pub record PartNumbers : Type 0 where
  pub refused : ℕ
  pub line : ℕ
  pub from : ℕ
  pub bytes : ℕ

-- on a refusal all other result fields are 0
abbrev pub part_numbers : Result Place Refusal → PartNumbers
part_numbers (Ok p) = record { refused = 0; line = 0; from = p.first * row_bytes; bytes = p.rows * row_bytes }
part_numbers (Err r) = record { refused = number r; line = line r; from = 0; bytes = 0 }

-- ---- its rows

-- the bytes of its rows
abbrev pub told_rows : List ℕ → Answer model.Cycle → Result (List ℕ) Refusal
told_rows l (given c) = Ok (part_of l (given c))
told_rows l (refused n) = Err (lineless n)

-- the bytes that an answer lends
abbrev pub rows_now : Result (Bor (List ℕ)) Refusal → Result (List ℕ) Refusal
rows_now (Ok part) = Ok part.now
rows_now (Err r) = Err r

-- ---- its claim

-- its context and both ends
abbrev pub told_claimed : Answer model.Claim → Result Claim Refusal
told_claimed (given c) = Ok (told_claim c)
told_claimed (refused n) = Err (lineless n)

-- the numbers of a refusal, CN and both ends
pub record ClaimNumbers : Type 0 where
  pub refused : ℕ
  pub line : ℕ
  pub cn : ℕ
  pub end1 : ℕ
  pub end2 : ℕ

-- on a refusal all other result fields are 0
abbrev pub claim_numbers : Result Claim Refusal → ClaimNumbers
claim_numbers (Ok c) = record { refused = 0; line = 0; cn = c.context.cn; end1 = val c.end1; end2 = val c.end2 }
claim_numbers (Err r) = record { refused = number r; line = line r; cn = 0; end1 = 0; end2 = 0 }
