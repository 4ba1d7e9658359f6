-- From the fields of a line to an instruction and what it touches.
use Rattle.std.specs.Prelude.{ℕ, ◌^◌, ◌<◌, ◌≤◌, Bool, ◌&&◌, ◌||◌, ◌≢◌, ◌≡◌, eqb, ltb}
use Rattle.number.specs.Tests.{pick}
use Rattle.opcode.specs.Opcodes.{unlisted, touches_nothing, touches_word, touches_byte, touches_range, category_of}
use Rattle.gas.specs.Gas.{word_bytes}
use Rattle.model.specs.State.{Context}
use Rattle.refusal.specs.Refusals.{cn_zero, not_listed, unused_field}

-- the fields of a line, in their order
pub record Fields : Type 0 where
  pub cn : ℕ
  pub op : ℕ
  pub at1 : ℕ
  pub len1 : ℕ
  pub at2 : ℕ
  pub len2 : ℕ

-- a range of offset and length
pub record Range : Type 0 where
  pub at : ℕ
  pub len : ℕ

-- An instruction touches nothing, one range, or two ranges of offset and length.
pub data Touched : Type 0 where
  nothing : Touched
  one : Range → Touched
  two : Range → Range → Touched

-- an instruction: its context, its opcode and what it touches
pub record Instruction : Type 0 where
  pub context : Context
  pub op : ℕ
  pub touched : Touched

-- ---- what the categories make of the fields

-- how many of at1, len1, at2, len2 are used, from the first on, and what is touched
pub record Use : Type 0 where
  pub fields : ℕ
  pub touched : Touched

-- so many fields are used, and this is touched
abbrev pub uses : (fields : ℕ) → Touched → Use
uses n t = record { fields = n; touched = t }

-- a range by its two numbers
abbrev pub range : (at len : ℕ) → Range
range at len = record { at = at; len = len }

-- MSIZE touches nothing; 51 and 52 a word from at1 on, 53 a byte there; then range 1; then range 1 and range 2
unfoldable pub use_of : (category : ℕ) → Fields → Use
use_of c f =
    pick (eqb c touches_nothing) (uses 0 nothing)
    (pick (eqb c touches_word) (uses 1 (one (range f.at1 word_bytes)))
    (pick (eqb c touches_byte) (uses 1 (one (range f.at1 1)))
    (pick (eqb c touches_range) (uses 2 (one (range f.at1 f.len1)))
    (uses 4 (two (range f.at1 f.len1) (range f.at2 f.len2))))))

-- A field that the opcode has no use for is 0: each of the four is among the first n, or 0.
unfoldable pub unused_zero : (n : ℕ) → Fields → Bool
unused_zero n f =
    ((ltb 0 n || eqb f.at1 0) && (ltb 1 n || eqb f.len1 0)) && ((ltb 2 n || eqb f.at2 0) && (ltb 3 n || eqb f.len2 0))

-- what the opcode of a line makes of its fields
abbrev pub used : Fields → Use
used f = use_of (category_of f.op) f

-- ---- the instruction of a line, or the number of its refusal

-- the instruction of the fields
abbrev pub instruction_of : Fields → Instruction
instruction_of f = record { context = record { cn = f.cn }; op = f.op; touched = (used f).touched }

-- what a line of the form is
pub data Decoded : Type 0 where
  decoded : Instruction → Decoded
  refused : ℕ → Decoded

-- cn 0, then an opcode that is not in the table, then an unused field that is not 0
unfoldable pub decode : Fields → Decoded
decode f =
    pick (eqb f.cn 0) (refused cn_zero)
    (pick (eqb (category_of f.op) unlisted) (refused not_listed)
    (pick (unused_zero (used f).fields f) (decoded (instruction_of f)) (refused unused_field)))

-- ---- the same in words

-- each of the four numbers that is not among the first n is 0
pub record UnusedZero (n : ℕ) (f : Fields) : Type 0 where
  pub at1 : n ≤ 0 → f.at1 ≡ 0
  pub len1 : n ≤ 1 → f.len1 ≡ 0
  pub at2 : n ≤ 2 → f.at2 ≡ 0
  pub len2 : n ≤ 3 → f.len2 ≡ 0

-- the four answers for a line, and what each says of it; no two of them go together
pub data Answer (f : Fields) : Decoded → Type 0 where
  cn_is_zero : f.cn ≡ 0 → Answer f (refused cn_zero)
  op_not_listed : f.cn ≢ 0 → category_of f.op ≡ unlisted → Answer f (refused not_listed)
  field_unused : f.cn ≢ 0 → category_of f.op ≢ unlisted → ¬ UnusedZero (used f).fields f → Answer f (refused unused_field)
  instruction : f.cn ≢ 0 → category_of f.op ≢ unlisted → UnusedZero (used f).fields f → Answer f (decoded (instruction_of f))

-- fields as wide as those of a line: cn has 32 bits, op 8, offsets and lengths have 128
pub record Sized (f : Fields) : Type 0 where
  pub cn : f.cn < 2 ^ 32
  pub op : f.op < 2 ^ 8
  pub at1 : f.at1 < 2 ^ 128
  pub len1 : f.len1 < 2 ^ 128
  pub at2 : f.at2 < 2 ^ 128
  pub len2 : f.len2 < 2 ^ 128
