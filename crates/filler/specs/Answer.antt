-- What the filler's answer says: what it has done, and document 01's numbers for each case.
use Rattle.std.specs.Prelude.{ℕ, Result, Ok, Err, length}
use Rattle.refusal.specs.Refusals as refusal
use Rattle.refusal.specs.Refusals.{in_line}
use Rattle.refusal.specs.declared.Refusal.{Refusal}
use Rattle.filler.specs.Fill.{Outcome, written, refused}

-- the answer that tells what was done
abbrev pub told : Outcome → Result ℕ Refusal
told (written rows) = Ok (length rows)
told (refused n l) = Err (in_line n l)

-- the numbers that document 01 speaks of
pub record Numbers : Type 0 where
  pub refused : ℕ
  pub line : ℕ
  pub rows : ℕ

-- It answers the rows written. On a refusal all other result fields are 0.
abbrev pub numbers : Result ℕ Refusal → Numbers
numbers (Ok n) = record { refused = 0; line = 0; rows = n }
numbers (Err r) = record { refused = refusal.number r; line = refusal.line r; rows = 0 }
