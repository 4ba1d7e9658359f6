-- A list of instructions: the next line of it, and all of them.
use Rattle.std.specs.Prelude.{ℕ, zero, suc, List, [], ◌∷◌, ◌++◌, leb, length}
use Rattle.number.specs.Tests.{pick}
use Rattle.form.specs.Read.{Read, got, stop}
use Rattle.refusal.specs.Refusals.{not_of_form}
use Rattle.claim.specs.Instruction as line
use Rattle.claim.specs.Instruction.{Fields, Instruction, Decoded, decode}
use Rattle.list.specs.Line.{LineRoom, print_line, read_line}

-- what stands in a list at a place
pub data Next : Type 0 where
  -- nothing: the list ends
  end : Next
  -- an instruction, and the place after its line
  one : Instruction → (next : ℕ) → Next
  -- a line that is refused: the number of the refusal and, where the line is not of the form, the place of the first character that cannot
  -- continue any line, else 0
  refused : (number at : ℕ) → Next

-- a line of the form, which ends before place q
abbrev pub decided : ℕ → Decoded → Next
decided q (line.decoded i) = one i q
decided q (line.refused n) = refused n 0

-- the form is judged first, then what the fields say
abbrev pub next_of : Read Fields → Next
next_of (stop q) = refused not_of_form q
next_of (got f q) = decided q (decode f)

-- what stands at place p
unfoldable pub next_line : (t : List ℕ) → (p : ℕ) → Next
next_line t p = pick (leb (length t) p) end (next_of (read_line t p))

-- a list: its instructions in order, or its first refusal, with the number of its line
pub data Listed : Type 0 where
  instructions : List Instruction → Listed
  refused_in : (number line at : ℕ) → Listed

-- one instruction before others
abbrev pub before : Instruction → Listed → Listed
before i (instructions is) = instructions (i ∷ is)
before i (refused_in n l q) = refused_in n l q

-- a list by what comes next in it, where l is the number of that line and `rest` gives the list from a place on
abbrev pub list_by : (l : ℕ) → (rest : ℕ → Listed) → Next → Listed
list_by l rest end = instructions []
list_by l rest (one i q) = before i (rest q)
list_by l rest (refused n q) = refused_in n l q

-- An empty text is a list of none. 3 to 6 go line by line. The list from place p on, where the line has this number; at most k lines are read.
unfoldable pub list_from : (k : ℕ) → (t : List ℕ) → (p l : ℕ) → Listed
list_from zero t p l = instructions []
list_from (suc k) t p l = list_by l (λ q. list_from k t q (suc l)) (next_line t p)

-- a text as a list, whose first line has this number: a line has a character at least, so no text has more lines than characters
unfoldable pub read_list : (first : ℕ) → (t : List ℕ) → Listed
read_list first t = list_from (suc (length t)) t 0 first

-- ---- what the theorems speak of

-- instructions before a list
abbrev pub before_all : List Instruction → Listed → Listed
before_all [] x = x
before_all (i ∷ is) x = before i (before_all is x)

-- each has room in a line
abbrev pub LinesRoom : List Fields → Type 0
LinesRoom [] = Unit
LinesRoom (f ∷ fs) = LineRoom f × LinesRoom fs

-- lines one after the other
unfoldable pub print_lines : List Fields → List ℕ
print_lines [] = []
print_lines (f ∷ fs) = print_line f ++ print_lines fs
