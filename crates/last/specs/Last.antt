-- The last-state question, what is answered on any bytes, and document 01's numbers for each case.
use Rattle.std.specs.Prelude.{ℕ, List, Result, Ok, Err, eqb, ltb}
use Rattle.model.specs.Columns.{rows_of}
use Rattle.model.specs.Cycles.{Looked, last_state}
use Rattle.model.specs.State.{Context}
use Rattle.model.specs.Tests.{pick}
use Rattle.model.specs.Verdict.{verdict}
use Rattle.refusal.specs.Refusals.{number, line, lineless, context_zero, limit_too_low}
use Rattle.refusal.specs.declared.Refusal.{Refusal}
use Rattle.state.specs.declared.look.Looked as code
use Rattle.state.specs.Plain.{told_looked}
use Rattle.trace.specs.Asked.{Answer, given, refused, of_accepted}

-- an answer within a limit on cycles. 14: more cycles needed than the limit.
unfoldable pub within_limit : (limit : ℕ) → Looked → Answer Looked
within_limit limit a = pick (ltb limit a.cycles) (refused limit_too_low) (given a)

-- The last-state question takes a context and a limit on cycles. 13: context 0.
unfoldable pub last_of : List ℕ → Context → (limit : ℕ) → Answer Looked
last_of l x limit =
    of_accepted (verdict l) (pick (eqb x.cn 0) (refused context_zero) (within_limit limit (last_state (rows_of l) x)))

-- ---- what is told

-- the state, and how many cycles were looked at for it
abbrev pub told_last : Answer Looked → Result code.Looked Refusal
told_last (given a) = Ok (told_looked a)
told_last (refused n) = Err (lineless n)

-- the numbers of a refusal, MEMN, COSTN and how many cycles it looked at
pub record LastNumbers : Type 0 where
  pub refused : ℕ
  pub line : ℕ
  pub mem : ℕ
  pub cost : ℕ
  pub looked : ℕ

-- on a refusal all other result fields are 0
abbrev pub last_numbers : Result code.Looked Refusal → LastNumbers
last_numbers (Ok a) = record { refused = 0; line = 0; mem = a.state.mem.0; cost = a.state.cost.0; looked = a.cycles }
last_numbers (Err r) = record { refused = number r; line = line r; mem = 0; cost = 0; looked = 0 }
