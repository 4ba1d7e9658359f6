-- The code's answers as those of the definitions, and back.
use Rattle.std.specs.Prelude.{ℕ, List, [], ◌∷◌, Option, Some, None, Result, Ok, Err}
use Rattle.long.specs.Halves.{whole}
use Rattle.form.specs.Plain.{told}
use Rattle.form.specs.Read.{Read}
use Rattle.form.specs.declared.Read as code
use Rattle.form.specs.declared.Stop.{Stop}
use Rattle.refusal.specs.Refusals as refusal
use Rattle.refusal.specs.Refusals.{in_line}
use Rattle.claim.specs.Instruction as plain
use Rattle.claim.specs.Told.{plain_fields, told_instruction}
use Rattle.claim.specs.declared.instruction.Fields.{Fields}
use Rattle.claim.specs.declared.instruction.Range.{Range}
use Rattle.list.specs.List as spec
use Rattle.list.specs.declared.line.Head.{Head}
use Rattle.list.specs.declared.Listed.{Listed}
use Rattle.list.specs.declared.Rejected.{Rejected}

-- cn and op
abbrev pub head_values : Head → List ℕ
head_values h = h.cn ∷ h.op ∷ []

-- an offset and a length
abbrev pub range_values : Range → List ℕ
range_values r = whole r.at ∷ whole r.len ∷ []

-- a line
abbrev pub line_read : Result (code.Read Fields) Stop → Read plain.Fields
line_read r = told plain_fields r

-- what stands in a list at a place, where the line has this number
abbrev pub told_next : (line : ℕ) → spec.Next → Result (Option Listed) Rejected
told_next line spec.end = Ok None
told_next line (spec.one i next) = Ok (Some (record { instruction = told_instruction i; next = next }))
told_next line (spec.refused n at) = Err (record { why = in_line n line; at = at })

-- the numbers of a refusal, and the place that goes with it
pub record NextNumbers : Type 0 where
  pub refused : ℕ
  pub line : ℕ
  pub at : ℕ

-- 3 to 6 give the line; all other result fields are 0
abbrev pub next_numbers : Result (Option Listed) Rejected → NextNumbers
next_numbers (Ok o) = record { refused = 0; line = 0; at = 0 }
next_numbers (Err r) = record { refused = refusal.number r.why; line = refusal.line r.why; at = r.at }
