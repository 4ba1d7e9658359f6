-- The opcodes that document 01 lists, by what they touch.
use Rattle.std.specs.Prelude.{ℕ, Bool, false, ◌||◌, List, [], ◌∷◌, Option, None, Some, eqb}
use Rattle.number.specs.Tests.{pick}
use Rattle.opcode.specs.declared.Category.{Category}
use Rattle.opcode.specs.declared.Category.TheVariants.{Nothing, Word, Byte, Range, TwoRanges}

-- the categories: a row of document 01's table each, and 0 for an opcode that is in none
abbrev pub unlisted : ℕ
unlisted = 0

abbrev pub touches_nothing : ℕ
touches_nothing = 1

abbrev pub touches_word : ℕ
touches_word = 2

abbrev pub touches_byte : ℕ
touches_byte = 3

abbrev pub touches_range : ℕ
touches_range = 4

abbrev pub touches_two : ℕ
touches_two = 5

-- a row of the table: its opcodes, and their category
pub record Listed : Type 0 where
  pub opcodes : List ℕ
  pub category : ℕ

-- MSIZE; MLOAD, MSTORE; MSTORE8; SHA3, CALLDATACOPY, CODECOPY, EXTCODECOPY, RETURNDATACOPY, LOG0 to LOG4, CREATE, RETURN, CREATE2, REVERT;
-- CALL, CALLCODE, DELEGATECALL, STATICCALL
abbrev pub listed : List Listed
listed =
    record { opcodes = 0x59 ∷ []; category = touches_nothing }
    ∷ record { opcodes = 0x51 ∷ 0x52 ∷ []; category = touches_word }
    ∷ record { opcodes = 0x53 ∷ []; category = touches_byte }
    ∷ record {
      opcodes = 0x20 ∷ 0x37 ∷ 0x39 ∷ 0x3c ∷ 0x3e ∷ 0xa0 ∷ 0xa1 ∷ 0xa2 ∷ 0xa3 ∷ 0xa4 ∷ 0xf0 ∷ 0xf3 ∷ 0xf5 ∷ 0xfd ∷ [];
      category = touches_range;
    }
    ∷ record { opcodes = 0xf1 ∷ 0xf2 ∷ 0xf4 ∷ 0xfa ∷ []; category = touches_two }
    ∷ []

-- whether a number is among others
abbrev pub among : ℕ → List ℕ → Bool
among x [] = false
among x (y ∷ ys) = eqb x y || among x ys

-- the category of an opcode by rows of the table
abbrev pub category_by : List Listed → ℕ → ℕ
category_by [] op = unlisted
category_by (r ∷ rs) op = pick (among op r.opcodes) r.category (category_by rs op)

-- the category of an opcode
unfoldable pub category_of : ℕ → ℕ
category_of op = category_by listed op

-- ---- the categories in the code

-- the number of a category
abbrev pub category_number : Category → ℕ
category_number Nothing = touches_nothing
category_number Word = touches_word
category_number Byte = touches_byte
category_number Range = touches_range
category_number TwoRanges = touches_two

-- the same where there may be none
abbrev pub number_of : Option Category → ℕ
number_of None = unlisted
number_of (Some k) = category_number k
