-- Active words after each instruction as the Ethereum Yellow Paper has them, opcode by opcode and apart from our categories; and over the lines of a
-- list. at1, len1, at2 and len2 stand for the Paper's stack items: the offset and the length of the memory that the instruction reads or writes, and,
-- for the CALL kinds, those of its input and of its output.
use Rattle.std.specs.Prelude.{ℕ, ◌+◌, Bool, false, List, [], ◌∷◌, ◌++◌, ◌≡◌, eqb}
use Rattle.number.specs.Tests.{pick}
use Rattle.gas.specs.Gas.{words}
use Rattle.gas.specs.Paper.{M, C_mem}
use Rattle.model.specs.Alone.{counted}
use Rattle.model.specs.Columns.{Cells}
use Rattle.model.specs.State.{Context}
use Rattle.claim.specs.Claims.{claim_of}
use Rattle.claim.specs.Instruction.{Fields, Instruction, Decoded, decoded, refused, decode}

-- an opcode, and the words after it where s were active before
pub record Entry : Type 0 where
  pub opcode : ℕ
  pub words : ℕ → Fields → ℕ

-- an entry by its two parts
abbrev pub entry : ℕ → (ℕ → Fields → ℕ) → Entry
entry op w = record { opcode = op; words = w }

-- one line for each opcode, in their order; the Paper's arguments of M are in the comment
abbrev pub paper : List Entry
paper =
    -- KECCAK256 (SHA3): M(μi, μs[0], μs[1])
    entry 0x20 (λ s x. M s x.at1 x.len1)
    -- CALLDATACOPY: M(μi, μs[0], μs[2])
    ∷ entry 0x37 (λ s x. M s x.at1 x.len1)
    -- CODECOPY: M(μi, μs[0], μs[2])
    ∷ entry 0x39 (λ s x. M s x.at1 x.len1)
    -- EXTCODECOPY: M(μi, μs[1], μs[3])
    ∷ entry 0x3c (λ s x. M s x.at1 x.len1)
    -- RETURNDATACOPY: M(μi, μs[0], μs[2])
    ∷ entry 0x3e (λ s x. M s x.at1 x.len1)
    -- MLOAD: max(μi, ⌈(μs[0] + 32) ÷ 32⌉), which is M(μi, μs[0], 32)
    ∷ entry 0x51 (λ s x. M s x.at1 32)
    -- MSTORE: the same
    ∷ entry 0x52 (λ s x. M s x.at1 32)
    -- MSTORE8: max(μi, ⌈(μs[0] + 1) ÷ 32⌉), which is M(μi, μs[0], 1)
    ∷ entry 0x53 (λ s x. M s x.at1 1)
    -- MSIZE: μi
    ∷ entry 0x59 (λ s x. s)
    -- LOG0 to LOG4: M(μi, μs[0], μs[1])
    ∷ entry 0xa0 (λ s x. M s x.at1 x.len1)
    ∷ entry 0xa1 (λ s x. M s x.at1 x.len1)
    ∷ entry 0xa2 (λ s x. M s x.at1 x.len1)
    ∷ entry 0xa3 (λ s x. M s x.at1 x.len1)
    ∷ entry 0xa4 (λ s x. M s x.at1 x.len1)
    -- CREATE: M(μi, μs[1], μs[2])
    ∷ entry 0xf0 (λ s x. M s x.at1 x.len1)
    -- CALL: M(M(μi, μs[3], μs[4]), μs[5], μs[6])
    ∷ entry 0xf1 (λ s x. M (M s x.at1 x.len1) x.at2 x.len2)
    -- CALLCODE: as CALL
    ∷ entry 0xf2 (λ s x. M (M s x.at1 x.len1) x.at2 x.len2)
    -- RETURN: M(μi, μs[0], μs[1])
    ∷ entry 0xf3 (λ s x. M s x.at1 x.len1)
    -- DELEGATECALL: M(M(μi, μs[2], μs[3]), μs[4], μs[5])
    ∷ entry 0xf4 (λ s x. M (M s x.at1 x.len1) x.at2 x.len2)
    -- CREATE2: M(μi, μs[1], μs[2])
    ∷ entry 0xf5 (λ s x. M s x.at1 x.len1)
    -- STATICCALL: as DELEGATECALL
    ∷ entry 0xfa (λ s x. M (M s x.at1 x.len1) x.at2 x.len2)
    -- REVERT: M(μi, μs[0], μs[1])
    ∷ entry 0xfd (λ s x. M s x.at1 x.len1)
    ∷ []

-- the words after an instruction by entries of the Paper; an opcode without an entry changes nothing
abbrev pub words_by : List Entry → ℕ → Fields → ℕ
words_by [] s f = s
words_by (e ∷ es) s f = pick (eqb f.op e.opcode) (e.words s f) (words_by es s f)

-- the words after the instruction of these fields, where s were active before
unfoldable pub paper_after : ℕ → Fields → ℕ
paper_after s f = words_by paper s f

-- ---- over the lines of a list

-- whether the words of a context change with a line: it is an instruction of the context, in bounds
abbrev pub charges : Context → Decoded → Bool
charges x (decoded i) = counted x (claim_of i)
charges x (refused n) = false

-- the active words of a context by the Paper, w before the lines
unfoldable pub paper_over : Context → (w : ℕ) → List Fields → ℕ
paper_over x w [] = w
paper_over x w (f ∷ fs) = paper_over x (pick (charges x (decode f)) (paper_after w f) w) fs

-- the lines are these instructions, one for each
pub data Decodes : List Fields → List Instruction → Type 0 where
  none : Decodes [] []
  more : {f : Fields} {i : Instruction} {fs : List Fields} {is : List Instruction} → decode f ≡ decoded i → Decodes fs is → Decodes (f ∷ fs) (i ∷ is)

-- the context of a line
abbrev pub context_of : Fields → Context
context_of f = record { cn = f.cn }

-- what a row says of the line f after the lines done, by the Paper: the words are its active words, and the gas is the growth of its C_mem
pub record LineByPaper (row : Cells) (done : List Fields) (f : Fields) : Type 0 where
  pub words : words row.memn ≡ paper_over (context_of f) 0 (done ++ (f ∷ []))
  pub gas : C_mem (paper_over (context_of f) 0 done) + row.gas ≡ C_mem (paper_over (context_of f) 0 (done ++ (f ∷ [])))
