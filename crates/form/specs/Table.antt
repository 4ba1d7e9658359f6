-- What each byte counts as a digit, as a table.
use Rattle.std.specs.Prelude.{ℕ, zero, suc, List, [], ◌∷◌, Option, Some, None}
use Rattle.number.specs.Tests.{pick}
use Rattle.form.specs.Hex.{is_digit, digit_of}

-- what a digit counts, and 16 for a character that is none
abbrev pub counts : ℕ → ℕ
counts c = pick (is_digit c) (digit_of c) 16

-- so many entries, from that of c on
abbrev pub entries_from : (n c : ℕ) → List ℕ
entries_from zero c = []
entries_from (suc n) c = counts c ∷ entries_from n (suc c)

-- the entries of all bytes
unfoldable pub digit_table : List ℕ
digit_table = entries_from 256 0

-- what a character counts that is a digit
abbrev pub digit_in : ℕ → Option ℕ
digit_in c = pick (is_digit c) (Some (digit_of c)) None
