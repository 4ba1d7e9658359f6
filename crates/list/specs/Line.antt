-- The line of a list: document 01's form, and how it is printed and read.
use Rattle.std.specs.Prelude.{ℕ, List, [], ◌∷◌, ◌++◌, get_or}
use Rattle.form.specs.Ascii.{ascii}
use Rattle.form.specs.Form.{Field, up_to, exactly, print_form, Room, read_field, read_form}
use Rattle.form.specs.Read.{Read, got, and_then, read_text}
use Rattle.claim.specs.Instruction.{Fields}

-- Lower-case hex; op exactly two digits, `00` to `ff`; cn one to 8 digits, the others one to 32, these without leading zero, zero as `0`.
abbrev pub cn_digits : ℕ
cn_digits = 8

abbrev pub op_digits : ℕ
op_digits = 2

abbrev pub long_digits : ℕ
long_digits = 32

-- a name, and a number of at most so many digits after it
abbrev pub named : (name : List ℕ) → (most : ℕ) → Field
named name most = record { name = name; kind = up_to most }

-- One line per instruction, fields in this order, one space between, newline at the end of each: `cn= op= at1= len1= at2= len2=`.
abbrev pub cn_field : Field
cn_field = named (ascii "cn=") cn_digits

abbrev pub op_field : Field
op_field = record { name = ascii " op="; kind = exactly op_digits }

abbrev pub at1_field : Field
at1_field = named (ascii " at1=") long_digits

abbrev pub len1_field : Field
len1_field = named (ascii " len1=") long_digits

abbrev pub at2_field : Field
at2_field = named (ascii " at2=") long_digits

abbrev pub len2_field : Field
len2_field = named (ascii " len2=") long_digits

-- all of them in their order
abbrev pub line_fields : List Field
line_fields = cn_field ∷ op_field ∷ at1_field ∷ len1_field ∷ at2_field ∷ len2_field ∷ []

-- what closes a line
abbrev pub line_end : List ℕ
line_end = ascii "\n"

-- the fields of a line as the values of the form, and back
abbrev pub values : Fields → List ℕ
values f = f.cn ∷ f.op ∷ f.at1 ∷ f.len1 ∷ f.at2 ∷ f.len2 ∷ []

-- and back
abbrev pub fields_of : List ℕ → Fields
fields_of vs = record { cn = get_or vs 0 0; op = get_or vs 1 0; at1 = get_or vs 2 0; len1 = get_or vs 3 0; at2 = get_or vs 4 0; len2 = get_or vs 5 0 }

-- fields that a line has room for, and the line of them
abbrev pub LineRoom : Fields → Type 0
LineRoom f = Room line_fields (values f)

-- the line of the fields
unfoldable pub print_line : Fields → List ℕ
print_line f = print_form line_fields line_end (values f)

-- the fields of the line that starts at place p and the place after it, or the place of the first character that cannot continue any line
unfoldable pub read_line : (t : List ℕ) → (p : ℕ) → Read Fields
read_line t p = and_then (read_form line_fields line_end t p) (λ vs q. got (fields_of vs) q)

-- ---- the same in parts

-- two fields, one after the other
unfoldable pub read_two : (f g : Field) → (t : List ℕ) → (p : ℕ) → Read (List ℕ)
read_two f g t p = and_then (read_field f t p) (λ v q. and_then (read_field g t q) (λ w r. got (v ∷ w ∷ []) r))

-- both ranges
unfoldable pub read_four : (t : List ℕ) → (p : ℕ) → Read (List ℕ)
read_four t p = and_then (read_two at1_field len1_field t p) (λ a q. and_then (read_two at2_field len2_field t q) (λ b r. got (a ++ b) r))

-- fields, with the end of the line behind them
unfoldable pub closed : Fields → (t : List ℕ) → (p : ℕ) → Read Fields
closed f t p = and_then (read_text line_end t p) (λ u q. got f q)
