-- A form of text: named numbers in hex one after the other, and a text that closes it. How it is printed, and how it is read.
use Rattle.std.specs.Prelude.{ℕ, suc, ◌+◌, ◌^◌, ◌<◌, true, false, List, [], ◌∷◌, ◌++◌, ◌≡◌, length, take}
use Rattle.form.specs.Hex.{is_digit, hex, hex_in}
use Rattle.form.specs.Read.{Read, got, and_then, char_at, all_chars, read_text, read_digits, read_number}

-- how a number is written
pub data Kind : Type 0 where
  -- in one to so many digits, without leading zero, zero as `0`
  up_to : ℕ → Kind
  -- in exactly so many digits
  exactly : ℕ → Kind

-- a name, and how the number after it is written
pub record Field : Type 0 where
  pub name : List ℕ
  pub kind : Kind

-- ---- printing

-- a number of a kind, and a number that the kind has room for
abbrev pub print_number : Kind → ℕ → List ℕ
print_number (up_to most) v = hex v
print_number (exactly w) v = hex_in w v

abbrev pub room : Kind → ℕ
room (up_to most) = 16 ^ most
room (exactly w) = 16 ^ w

-- fields with their values, then what closes them; a value that is missing is 0, one too many is left out
unfoldable pub print_form : List Field → (close : List ℕ) → List ℕ → List ℕ
print_form [] close vs = close
print_form (f ∷ fs) close [] = f.name ++ print_number f.kind 0 ++ print_form fs close []
print_form (f ∷ fs) close (v ∷ vs) = f.name ++ print_number f.kind v ++ print_form fs close vs

-- there is one value for each field, and each has room
unfoldable pub Room : List Field → List ℕ → Type 0
Room [] [] = Unit
Room [] (v ∷ vs) = ⊥
Room (f ∷ fs) [] = ⊥
Room (f ∷ fs) (v ∷ vs) = (v < room f.kind) × Room fs vs

-- ---- reading

-- a number of a kind
abbrev pub read_kind : Kind → (t : List ℕ) → (p : ℕ) → Read ℕ
read_kind (up_to most) t p = read_number most t p
read_kind (exactly w) t p = read_digits w w t p

-- a name and its number
unfoldable pub read_field : Field → (t : List ℕ) → (p : ℕ) → Read ℕ
read_field f t p = and_then (read_text f.name t p) (λ u q. read_kind f.kind t q)

-- the fields one after the other, and what closes them: their values and the place after it, or the place where it stopped
unfoldable pub read_form : List Field → (close t : List ℕ) → (p : ℕ) → Read (List ℕ)
read_form [] close t p = and_then (read_text close t p) (λ u q. got [] q)
read_form (f ∷ fs) close t p = and_then (read_field f t p) (λ v q. and_then (read_form fs close t q) (λ vs r. got (v ∷ vs) r))

-- ---- what the theorems speak of

-- the characters stand in the text from place p on
abbrev pub Stands : (t : List ℕ) → (p : ℕ) → List ℕ → Type 0
Stands t p [] = Unit
Stands t p (c ∷ cs) = (char_at t p ≡ c) × Stands t (suc p) cs

-- the first character of a text is no digit
abbrev pub NoDigitFirst : List ℕ → Type 0
NoDigitFirst [] = ⊥
NoDigitFirst (c ∷ cs) = is_digit c ≡ false

-- the text that comes first: the first name, or what closes the form
abbrev pub first_text : List Field → (close : List ℕ) → List ℕ
first_text [] close = close
first_text (f ∷ fs) close = f.name

-- a number of any length ends where a character that is no digit comes: so each name but the first, and what closes the form, begins with one
abbrev pub Separate : List Field → (close : List ℕ) → Type 0
Separate [] close = Unit
Separate (f ∷ fs) close = NoDigitFirst (first_text fs close) × Separate fs close

-- the names and what closes the form hold characters only
abbrev pub AllChars : List Field → (close : List ℕ) → Type 0
AllChars [] close = all_chars close ≡ true
AllChars (f ∷ fs) close = (all_chars f.name ≡ true) × AllChars fs close

-- the characters of t from place p up to place q begin a text, and more of it has to follow
pub record Begins (t : List ℕ) (p q : ℕ) (text : List ℕ) : Type 0 where
  pub many : ℕ
  pub more : many < length text
  pub place : q ≡ p + many
  pub stand : Stands t p (take many text)
