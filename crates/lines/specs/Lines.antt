-- What a list comes to, and what is written of it: its claims, the rows of their cycles, and the bytes of these behind empty rows.
use Rattle.std.specs.Prelude.{ℕ, suc, ◌+◌, ◌*◌, ◌≤◌, ◌<◌, List, [], map, Result, Ok, Err, ◌≡◌, length, replicate, take}
use Rattle.std.proofs.lemmas.List.Edits.{sets}
use Rattle.model.specs.Columns.{empty_row, row_bytes, row_at, bytes_of}
use Rattle.model.specs.Cycles.{Claim}
use Rattle.model.specs.State.{Sound, fresh}
use Rattle.model.specs.Trace.{last_of, cycles_of}
use Rattle.model.specs.Verdict.{max_rows}
use Rattle.recent.specs.Notes.{Recent, noted_in, recalled}
use Rattle.refusal.specs.Refusals.{in_line}
use Rattle.refusal.specs.declared.Refusal.{Refusal}
use Rattle.claim.specs.Claims.{claim_of}
use Rattle.claim.specs.Instruction.{Instruction}
use Rattle.list.specs.List.{Listed, instructions, refused_in, read_list}

-- Limits: list 4,194,304 bytes.
abbrev pub max_list : ℕ
max_list = 4194304

-- how many rows the cycles of claims have
abbrev pub rows_of_claims : List Claim → ℕ
rows_of_claims cs = length (cycles_of 1 fresh cs)

-- the claims of a list that was read, none if it is refused; and of a text
abbrev pub claims_listed : Listed → List Claim
claims_listed (instructions is) = map claim_of is
claims_listed (refused_in n l at) = []

abbrev pub list_claims : List ℕ → List Claim
list_claims t = claims_listed (read_list 1 t)

-- what a list that was read comes to: the rows of its cycles, or its first refusal
abbrev pub told_measured : Listed → Result ℕ Refusal
told_measured (instructions is) = Ok (rows_of_claims (map claim_of is))
told_measured (refused_in n l at) = Err (in_line n l)

-- ---- writing

-- the text is a list
pub record Lists (t : List ℕ) : Type 0 where
  pub each : List Instruction
  pub read : read_list 1 t ≡ instructions each

-- the cycles of a list may be written to the bytes l from row `first` on: empty rows stand before it, a trace may have so many rows, and there is room
pub record Writable (t l : List ℕ) (first : ℕ) : Type 0 where
  pub lists : Lists t
  pub some : 0 < first
  pub empty : take (first * row_bytes) l ≡ bytes_of (replicate first empty_row)
  pub few : first + rows_of_claims (list_claims t) ≤ max_rows
  pub room : (first + rows_of_claims (list_claims t)) * row_bytes ≤ length l

-- the cycle of a claim may be written from this row on, behind so many cycles: there is room, a trace may have so many rows, and the state of its context is
-- known
pub record NextWritable (l : List ℕ) (known : Recent) (row cycles : ℕ) (c : Claim) : Type 0 where
  pub room : (row + suc (last_of c)) * row_bytes ≤ length l
  pub few : row + suc (last_of c) ≤ max_rows
  pub before : cycles < max_rows
  pub noted : noted_in (length l) known.notes
  pub sound : Sound (recalled (row_at l) known.notes known.span c.context)

-- the bytes l, with the cycles of the claims from row `first` on
abbrev pub cycles_written : (first : ℕ) → List Claim → (l : List ℕ) → List ℕ
cycles_written first cs l = sets l (first * row_bytes) (bytes_of (cycles_of 1 fresh cs))
