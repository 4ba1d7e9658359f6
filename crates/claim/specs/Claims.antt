-- The claim of an instruction.
use Rattle.std.specs.Prelude.{ℕ}
use Rattle.gas.specs.Gas.{range_end}
use Rattle.model.specs.Cycles.{Claim}
use Rattle.claim.specs.Instruction.{Range, Touched, nothing, one, two, Instruction}

-- the end of a range
abbrev pub end_of : Range → ℕ
end_of r = range_end r.at r.len

-- An end is 0 if nothing is touched.
abbrev pub end1 : Touched → ℕ
end1 nothing = 0
end1 (one a) = end_of a
end1 (two a b) = end_of a

-- the end of the second range
abbrev pub end2 : Touched → ℕ
end2 nothing = 0
end2 (one a) = 0
end2 (two a b) = end_of b

-- A claim is a context number CN and two ends.
unfoldable pub claim_of : Instruction → Claim
claim_of i = record { context = i.context; end1 = end1 i.touched; end2 = end2 i.touched }
