-- The line reader is the grammar: a line of the form is read to exactly its fields, what was read is the line of its fields, and where the reader stops is
-- the first character that cannot continue any line. All from the laws of forms.
use Prim.Native.Nat.{ℕ, ◌+◌, ◌-◌, ◌≤◌, ◌<◌, max}
use mathlib.Core.Bool.{true}
use mathlib.Core.List.{List, [], ◌∷◌}
use mathlib.Core.Path.{◌≡◌, refl, sym, ◌∙◌, ap}
use native.Mathlib.Omega.{arith}
use lib.ListN.{length, take, drop}
use Rattle.form.specs.Form.{Room, Stands, Separate, AllChars, Begins, print_form, read_form}
use Rattle.form.specs.Hex.{is_digit}
use Rattle.form.specs.Read.{got, stop, all_chars}
use Rattle.form.proofs.FormLaws as form
use Rattle.form.proofs.ReadLaws.{then_got, made_stop}
use Rattle.form.proofs.TextLaws.{stands_inside, stands_take}
use Rattle.claim.specs.Instruction.{Fields}
use Rattle.list.specs.Line.{line_fields, line_end, values, fields_of, LineRoom, print_line, read_line}

-- each name but the first, and the newline, begins with a character that is no digit; all are characters
separate : Separate line_fields line_end
unfolding is_digit
separate = (refl, (refl, (refl, (refl, (refl, (refl, tt))))))

chars : AllChars line_fields line_end
chars = (refl, (refl, (refl, (refl, (refl, (refl, refl))))))

-- values that the fields have room for are those of a line
values_back : (vs : List ℕ) → Room line_fields vs → values (fields_of vs) ≡ vs
unfolding Room
values_back [] h = absurd h
values_back (a ∷ []) h = absurd h.1
values_back (a ∷ b ∷ []) h = absurd h.1.1
values_back (a ∷ b ∷ c ∷ []) h = absurd h.1.1.1
values_back (a ∷ b ∷ c ∷ d ∷ []) h = absurd h.1.1.1.1
values_back (a ∷ b ∷ c ∷ d ∷ e ∷ []) h = absurd h.1.1.1.1.1
values_back (a ∷ b ∷ c ∷ d ∷ e ∷ f ∷ []) h = refl
values_back (a ∷ b ∷ c ∷ d ∷ e ∷ f ∷ g ∷ vs) h = absurd h.1.1.1.1.1.1

-- a line holds characters only, and has one
pub line_chars : (f : Fields) → all_chars (print_line f) ≡ true
unfolding print_line
line_chars f = form.print_chars line_fields line_end (values f) chars

-- it has a character
pub line_some : (f : Fields) → 1 ≤ length (print_line f)
unfolding print_line print_form
line_some f = omega arith

-- a line of the form is read to exactly its fields
pub read_printed : (t : List ℕ) (p : ℕ) (f : Fields) → LineRoom f → Stands t p (print_line f) → read_line t p ≡ got f (p + length (print_line f))
unfolding read_line print_line
read_printed t p f h st = rw (form.read_printed line_end t line_fields p (values f) separate h st)

-- what was read is the line of its fields
pub print_read : (t : List ℕ) (p : ℕ) {f : Fields} {q : ℕ} → read_line t p ≡ got f q
    → LineRoom f × Stands t p (print_line f) × (q ≡ p + length (print_line f))
unfolding read_line print_line
print_read t p {f} {q} e =
    let s = then_got (read_form line_fields line_end t p) (λ vs r. got (fields_of vs) r) e in
    let r = form.print_read line_end t line_fields p s.2 in
    let fields : fields_of s.0 ≡ f = cc in
    let place : s.1 ≡ q = cc in
    let vs : values f ≡ s.0 = ap values (sym fields) ∙ values_back s.0 r.0 in
    (rw vs r.0, rw vs r.1, rw vs (sym place ∙ r.2))

-- and printing its fields gives the line back
pub line_back : (t : List ℕ) (p : ℕ) {f : Fields} {q : ℕ} → read_line t p ≡ got f q → print_line f ≡ take (q - p) (drop p t)
line_back t p {f} {q} e =
    let r = print_read t p e in
    let many : q - p ≡ length (print_line f) = omega (arith, r.2) in
    rw many (sym (stands_take t p (print_line f) (line_chars f) r.1))

-- where the reader stops it has read the beginning of a line
pub stop_begins : (t : List ℕ) (p : ℕ) {q : ℕ} → read_line t p ≡ stop q → (f : Fields) × LineRoom f × Begins t p q (print_line f)
unfolding read_line print_line
stop_begins t p e =
    let s = form.stop_begins line_end t line_fields p (made_stop (read_form line_fields line_end t p) fields_of e) in
    let vs : values (fields_of s.0) ≡ s.0 = values_back s.0 s.1 in
    (fields_of s.0, rw vs s.1, rw vs s.2)

-- and no line that begins as the text does goes on with the character where it stopped
pub stop_first : (t : List ℕ) (p : ℕ) (f : Fields) (m : ℕ) {q : ℕ} → LineRoom f → m ≤ length (print_line f) → Stands t p (take m (print_line f))
    → read_line t p ≡ stop q → p + m ≤ q
unfolding read_line print_line
stop_first t p f m h l st e =
    form.stop_first line_end t line_fields p (values f) m separate h l st (made_stop (read_form line_fields line_end t p) fields_of e)

-- a line ends behind its beginning and inside of the text
pub line_inside : (t : List ℕ) (p : ℕ) {f : Fields} {q : ℕ} → read_line t p ≡ got f q → (p < q) × (q ≤ length t)
line_inside t p {f} {q} e =
    let r = print_read t p e in
    let i = stands_inside t p (print_line f) (line_chars f) r.1 in
    (omega (arith, r.2, line_some f), omega (arith, r.2, line_some f, i))

-- the place where the reader stops is in the text or at its end
pub stop_inside : (t : List ℕ) (p : ℕ) {q : ℕ} → read_line t p ≡ stop q → (p ≤ q) × (q ≤ max p (length t))
unfolding read_line
stop_inside t p e = form.stop_inside line_end t line_fields p chars (made_stop (read_form line_fields line_end t p) fields_of e)
