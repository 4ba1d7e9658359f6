-- Worked examples of the readers, which the prover computes.
use mathlib.Core.List.{List, [], ◌∷◌}
use mathlib.Core.Path.{◌≡◌, refl}
use Rattle.form.specs.Ascii.{ascii}
use Rattle.form.specs.Form.{Field, up_to, exactly, read_field, read_form}
use Rattle.form.specs.Hex.{is_digit, digit_of}
use Rattle.form.specs.Read.{got, stop, read_text, run, read_digits, read_number}

-- a number of at most four digits: `0` alone, no digit after it, a letter, the greatest, a fifth digit left standing, an upper-case letter, none, and the end of
-- the text
pub number-examples : (read_number 4 (ascii "0 ") 0 ≡ got 0 1)
    × (read_number 4 (ascii "01 ") 0 ≡ got 0 1)
    × (read_number 4 (ascii "1a ") 0 ≡ got 26 2)
    × (read_number 4 (ascii "ffff ") 0 ≡ got 65535 4)
    × (read_number 4 (ascii "10000 ") 0 ≡ got 4096 4)
    × (read_number 4 (ascii "1A ") 0 ≡ got 1 1)
    × (read_number 4 (ascii "g ") 0 ≡ stop 0)
    × (read_number 4 (ascii "") 0 ≡ stop 0)
unfolding read_number read_digits run is_digit digit_of
number-examples = (refl, refl, refl, refl, refl, refl, refl, refl)

-- exactly two digits: a zero in front, a third digit left standing, and one that is missing
pub digits-examples : (read_digits 2 2 (ascii "05") 0 ≡ got 5 2) × (read_digits 2 2 (ascii "523") 0 ≡ got 82 2) × (read_digits 2 2 (ascii "5 ") 0 ≡ stop 1)
unfolding read_digits run is_digit digit_of
digits-examples = (refl, refl, refl)

-- a form of a number of at most four digits and one of exactly two
abbrev example : List Field
example = record { name = ascii "cn="; kind = up_to 4 } ∷ record { name = ascii " w="; kind = exactly 2 } ∷ []

-- a text of the form is read; a second digit after a leading zero, a letter that is no digit and the end of the text each stop the reader
pub form_examples : (read_form example (ascii ";") (ascii "cn=1f w=05;") 0 ≡ got (31 ∷ 5 ∷ []) 11)
    × (read_form example (ascii ";") (ascii "cn=01 w=05;") 0 ≡ stop 4)
    × (read_form example (ascii ";") (ascii "cn=1f w=0g;") 0 ≡ stop 9)
    × (read_form example (ascii ";") (ascii "cn=1f w=05") 0 ≡ stop 10)
unfolding read_form read_field read_text read_number read_digits run is_digit digit_of
form_examples = (refl, refl, refl, refl)
