-- The code's fields, instructions and claims as those of the definitions, and back.
use Rattle.std.specs.Prelude.{ℕ, Result, Ok, Err}
use Rattle.number.specs.Whole.{val, wide}
use Rattle.long.specs.Halves.{whole, long}
use Rattle.model.specs.Cycles as model
use Rattle.refusal.specs.Refusals.{in_line}
use Rattle.refusal.specs.declared.Refusal.{Refusal}
use Rattle.state.specs.Plain.{context}
use Rattle.claim.specs.Instruction as spec
use Rattle.claim.specs.declared.instruction.Fields.{Fields}
use Rattle.claim.specs.declared.instruction.Range.{Range}
use Rattle.claim.specs.declared.instruction.Touched.{Touched}
use Rattle.claim.specs.declared.instruction.Touched.TheVariants.{Nothing, One, Two}
use Rattle.claim.specs.declared.instruction.Instruction.{Instruction}
use Rattle.claim.specs.declared.instruction.Use.{Use}
use Rattle.claim.specs.declared.claim.Claim.{Claim}

-- the fields that the code holds
abbrev pub plain_fields : Fields → spec.Fields
plain_fields f = record { cn = f.cn; op = f.op; at1 = whole f.at1; len1 = whole f.len1; at2 = whole f.at2; len2 = whole f.len2 }

-- a range, in the code's halves and back
abbrev pub told_range : spec.Range → Range
told_range r = record { at = long r.at; len = long r.len }

abbrev pub plain_range : Range → spec.Range
plain_range r = record { at = whole r.at; len = whole r.len }

-- what is touched
abbrev pub told_touched : spec.Touched → Touched
told_touched spec.nothing = Nothing
told_touched (spec.one a) = One (told_range a)
told_touched (spec.two a b) = Two (told_range a) (told_range b)

abbrev pub plain_touched : Touched → spec.Touched
plain_touched Nothing = spec.nothing
plain_touched (One a) = spec.one (plain_range a)
plain_touched (Two a b) = spec.two (plain_range a) (plain_range b)

-- what a category makes of the fields
abbrev pub told_use : spec.Use → Use
told_use u = record { fields = u.fields; touched = told_touched u.touched }

-- an instruction
abbrev pub told_instruction : spec.Instruction → Instruction
told_instruction i = record { context = record { cn = i.context.cn }; op = i.op; touched = told_touched i.touched }

abbrev pub plain_instruction : Instruction → spec.Instruction
plain_instruction i = record { context = context i.context; op = i.op; touched = plain_touched i.touched }

-- the answer for a line of this number
abbrev pub told_decoded : (line : ℕ) → spec.Decoded → Result Instruction Refusal
told_decoded line (spec.decoded i) = Ok (told_instruction i)
told_decoded line (spec.refused n) = Err (in_line n line)

-- a claim
abbrev pub told_claim : model.Claim → Claim
told_claim c = record { context = record { cn = c.context.cn }; end1 = wide c.end1; end2 = wide c.end2 }

abbrev pub plain_claim : Claim → model.Claim
plain_claim c = record { context = context c.context; end1 = val c.end1; end2 = val c.end2 }
