-- Laws of the readers as the code reads: one character, too few digits or enough, and what a call answered.
use Prim.Native.Nat.{ℕ, ◌+◌, ◌≤◌, ◌<◌}
use mathlib.Core.Bool.{true, false}
use mathlib.Core.List.{List}
use mathlib.Core.Path.{◌≡◌, ◌∙◌, ap}
use borrow.Author.Tests.{lt-ltb, le-ltb}
use native.Mathlib.Numerals.{add-one}
use lib.Dec.{eqb}
use lib.ListN.{length, drop, get_or, get_or-eq_default}
use lib.Seq.{drop-cons}
use Rattle.std.proofs.lemmas.List.{get_or_default}
use Rattle.std.specs.Prelude.{Result}
use Rattle.std.specs.Result.{IsErrAnd}
use Rattle.std.proofs.lemmas.Result.{err_from_is_err_and}
use Rattle.form.specs.Hex.{is_digit}
use Rattle.form.specs.Plain.{told}
use Rattle.form.specs.declared.Read as code
use Rattle.form.specs.declared.Stop.{Stop}
use Rattle.form.specs.Read.{Read, got, stop, and_then, no_char, char_at, read_text, Run, run, read_digits}

-- ---- characters

-- inside a text the character is the text's, whatever stands for none
pub char_in : (t : List ℕ) (p : ℕ) → p < length t → char_at t p ≡ get_or t p 0
char_in t p h = get_or_default t p no_char 0 h

-- so it is what was read there
pub char_of : (t : List ℕ) (p : ℕ) {x : ℕ} → p < length t → x ≡ get_or t p x → x ≡ char_at t p
char_of t p {x} h e = e ∙ get_or_default t p x no_char h

-- past its end there is none, so no digit
pub char_past : (t : List ℕ) (p : ℕ) → length t ≤ p → char_at t p ≡ no_char
char_past t p h = get_or-eq_default t no_char h

-- and no digit
pub no_digit_past : (t : List ℕ) (p : ℕ) → length t ≤ p → is_digit (char_at t p) ≡ false
unfolding is_digit
no_digit_past t p h = rw (char_past t p h)

-- ---- names

module _ (name t : List ℕ) (i p : ℕ) (h : i < length name) where
  -- a character of a name agrees: the rest of it is read at the next place
  pub name_agrees : eqb (char_at t p) (get_or name i 0) ≡ true → read_text (drop i name) t p ≡ read_text (drop (i + 1) name) t (p + 1)
  unfolding read_text
  name_agrees e = rw (drop-cons name i 0, e, add-one, add-one)

  -- it does not: there reading stops
  pub name_differs : eqb (char_at t p) (get_or name i 0) ≡ false → read_text (drop i name) t p ≡ stop p
  unfolding read_text
  name_differs e = rw (drop-cons name i 0, e)

-- ---- digits

-- too few digits: it stops where the run ends
pub too_few : (least most : ℕ) (t : List ℕ) (p : ℕ) (r : Run) → r ≡ run most t 0 p → r.next < p + least
    → stop r.next ≡ read_digits least most t p
unfolding read_digits
too_few least most t p r e h = rw (← e, lt-ltb r.next (p + least) h)

-- enough of them: the number
pub enough : (least most : ℕ) (t : List ℕ) (p : ℕ) (r : Run) → r ≡ run most t 0 p → p + least ≤ r.next
    → got r.value r.next ≡ read_digits least most t p
unfolding read_digits
enough least most t p r e h = rw (← e, le-ltb r.next (p + least) h)

-- ---- one reader after another, as the code goes on or stops

module _ {A B : Type 0} {r : Read A} (f : A → ℕ → Read B) where
  -- the first got a value: the second goes on
  pub on_got : {a : A} {q : ℕ} → got a q ≡ r → f a q ≡ and_then r f
  on_got e = ap (λ x. and_then x f) e

  -- it stopped: so do both
  pub on_stop : {q : ℕ} → stop q ≡ r → stop q ≡ and_then r f
  on_stop e = ap (λ x. and_then x f) e

-- an answer that is the `Stop` of another reader
pub stopped : {A B : Type 0} (says : A → B) (r : Result (code.Read A) Stop) {s : Stop} → IsErrAnd r (λ y. y ≡ s) → told says r ≡ stop s.0
stopped says r h = let p = err_from_is_err_and r h in rw (p.1, p.2)
