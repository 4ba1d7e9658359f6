-- The bytes of printed lines, and what it is to put bytes into a buffer.
use Rattle.std.specs.Prelude.{ℕ, ◌+◌, ◌≤◌, List, ◌++◌, ◌≡◌, length, take, drop}
use Rattle.std.proofs.lemmas.List.Edits.{sets}
use Rattle.form.specs.Ascii.{ascii}
use Rattle.text.specs.Decimal.{decimal}

-- a name and then a number in decimal
abbrev pub field : List ℕ → ℕ → List ℕ
field name n = name ++ decimal n

-- Both programs print `refused= line=` alone on a refusal.
abbrev pub refused_line : (number line : ℕ) → List ℕ
refused_line number line = field (ascii "refused=") number ++ field (ascii " line=") line ++ ascii "\n"

-- the most bytes of that line: 15 of text and two numbers
abbrev pub max_refused_line : ℕ
max_refused_line = 55

-- bytes were put into a buffer from a place on: the rest of it stays, and the answer is the place after them
pub record Put (old : List ℕ) (at : ℕ) (bytes new : List ℕ) (answer : ℕ) : Type 0 where
  pub stored : new ≡ sets old at bytes
  pub after : answer ≡ at + length bytes

-- a buffer begins with these bytes: the answer is how many they are, and what stands behind them stays
pub record Front (old bytes new : List ℕ) (answer : ℕ) : Type 0 where
  pub first : take answer new ≡ bytes
  pub count : answer ≡ length bytes
  pub within : answer ≤ length new
  pub rest : drop answer new ≡ drop answer old
