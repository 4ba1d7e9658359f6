-- The next line of a list, as the reading of its claims answers it, and where the reading stands behind it.
use Rattle.std.specs.Prelude.{ℕ, suc, Option, None, Some, Result, Ok, Err}
use Rattle.refusal.specs.Refusals.{in_line}
use Rattle.refusal.specs.declared.Refusal.{Refusal}
use Rattle.claim.specs.Claims.{claim_of}
use Rattle.claim.specs.Told.{told_claim}
use Rattle.claim.specs.declared.claim.Claim.{Claim}
use Rattle.list.specs.List.{Next, end, one, refused}

-- the claim of the line, none at the end of the list, or why the line is refused, where it has this number
abbrev pub told_claimed : (line : ℕ) → Next → Result (Option Claim) Refusal
told_claimed line end = Ok None
told_claimed line (one i q) = Ok (Some (told_claim (claim_of i)))
told_claimed line (refused n at) = Err (in_line n line)

-- the place behind the line, or where it stood
abbrev pub place_after : (at : ℕ) → Next → ℕ
place_after at end = at
place_after at (one i q) = q
place_after at (refused n p) = at

-- the lines read, with this one where it is an instruction
abbrev pub lines_after : (lines : ℕ) → Next → ℕ
lines_after lines end = lines
lines_after lines (one i q) = suc lines
lines_after lines (refused n p) = lines
