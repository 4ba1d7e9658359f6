-- The reader is the grammar: it reads each text of a form to its values and reads no other text, and it stops at the first character with which no text
-- of the form goes on.
use Prim.Native.Nat.{ℕ, suc, ◌+◌, ◌-◌, ◌≤◌, ◌<◌, max}
use mathlib.Core.Bool.{Bool, true, false}
use mathlib.Core.List.{List, [], ◌∷◌, ◌++◌}
use mathlib.Core.Path.{◌≡◌, refl, ap, subst}
use native.Mathlib.Nat.{one-le-pow}
use native.Mathlib.Omega.{arith}
use borrow.Author.Tests.{leb-true, leb-false}
use lib.Dec.{leb}
use lib.ListN.{length, take, length-append}
use lib.Seq.{length-take-le, take_all, take-append-le, take-append-add}
use Rattle.form.specs.Hex.{is_digit, hex, hex_in}
use Rattle.form.specs.Read.{got, stop, and_then, char_at, all_chars, read_text}
use Rattle.form.specs.Form.{Kind, up_to, exactly, Field, print_number, room, print_form, Room, read_kind, read_field, read_form, Stands, NoDigitFirst, first_text, Separate, AllChars, Begins}
use Rattle.form.proofs.HexLaws.{digits_are_chars, hex-digits, hex_in_digits}
use Rattle.form.proofs.TextLaws.{chars_append, chars_take, stands_split, stands_join, stands_inside}
use Rattle.form.proofs.ReadLaws.{reached, then_got, then_stop, made_stop, made_reached, then_on, text_reads, text_read, text_stops, text_far, kind_reads, kind_read, kind_stops, kind_far}

-- ---- texts one after the other

module _ (t : List ℕ) where
  -- what begins the first text begins both
  begins_left : (p q : ℕ) (a b : List ℕ) → Begins t p q a → Begins t p q (a ++ b)
  begins_left p q a b h =
      record {
        many = h.many;
        more = rw length-append (omega arith);
        place = h.place;
        stand = rw (take-append-le h.many a b (omega arith)) h.stand;
      }

  -- and so does the first with what begins the second
  begins_right : (p q r : ℕ) (a b : List ℕ) → Stands t p a → r ≡ p + length a → Begins t r q b → Begins t p q (a ++ b)
  begins_right p q r a b st e h =
      record {
        many = length a + h.many;
        more = rw length-append (omega arith);
        place = omega arith;
        stand = rw (take-append-add a b h.many) (stands_join t p a (take h.many b) st (subst (λ (x : ℕ). Stands t x (take h.many b)) e h.stand));
      }

  -- the first characters of two texts are characters of the first, or the first and some of the second
  module _ (p : ℕ) (a b : List ℕ) (G : ℕ → Type 0)
      (left : (m : ℕ) → m ≤ length a → Stands t p (take m a) → G m)
      (right : (m : ℕ) → suc m ≤ length b → Stands t p a → Stands t (p + length a) (take (suc m) b) → G (length a + suc m)) where
    take_cases : (m : ℕ) → m ≤ length (a ++ b) → Stands t p (take m (a ++ b)) → G m
    take_cases m h st = by (leb m (length a)) refl
      where
        by : (t : Bool) → leb m (length a) ≡ t → G m
        by true i = left m (leb-true m (length a) i) (rw (take-append-le m a b (leb-true m (length a) i)) at st)
        by false i =
            let k : ℕ = m - suc (length a) in
            let e : m ≡ length a + suc k = omega (arith, leb-false m (length a) i) in
            let parts = stands_split t p a (take (suc k) b) (rw (take-append-add a b (suc k)) at (rw e at st)) in
            rw e (right k (omega (arith, length-append a b)) parts.0 parts.1)

-- ---- a field

-- its name and its number
abbrev field_text : Field → ℕ → List ℕ
field_text f v = f.name ++ print_number f.kind v

-- 0 has room
room_some : (k : Kind) → 0 < room k
room_some (up_to most) = one-le-pow most 16 (omega arith)
room_some (exactly w) = one-le-pow w 16 (omega arith)

module _ (t : List ℕ) where
  -- it is read where it stands and no digit follows
  field_reads : (f : Field) (v p : ℕ) → v < room f.kind → Stands t p (field_text f v) → is_digit (char_at t (p + length (field_text f v))) ≡ false
      → read_field f t p ≡ got v (p + length (field_text f v))
  unfolding read_field
  field_reads f v p h st e =
      let parts = stands_split t p f.name (print_number f.kind v) st in
      let l : p + length (field_text f v) ≡ p + length f.name + length (print_number f.kind v) = rw length-append (omega arith) in
      rw (text_reads t f.name p parts.0, l) (kind_reads t f.kind v (p + length f.name) h parts.1 (rw l at e))

  -- it stands where it is read, and has room
  field_read : (f : Field) (p : ℕ) {v q : ℕ} → read_field f t p ≡ got v q
      → (v < room f.kind) × Stands t p (field_text f v) × (q ≡ p + length (field_text f v))
  unfolding read_field
  field_read f p {v} {q} e =
      let s = then_got (read_text f.name t p) (λ u r. read_kind f.kind t r) e in
      let n = text_read t f.name p s.2 in
      let k = kind_read t f.kind s.1 s.3 in
      (k.0, stands_join t p f.name (print_number f.kind v) n.0 (rw n.1 at k.1), rw length-append (omega (arith, n.1, k.2)))

  -- where the reader stops it has read the beginning of one
  field_stops : (f : Field) (p : ℕ) {q : ℕ} → read_field f t p ≡ stop q → (v : ℕ) × (v < room f.kind) × Begins t p q (field_text f v)
  unfolding read_field
  field_stops f p {q} e =
      then_stop
      (read_text f.name t p)
      (λ u r. read_kind f.kind t r)
      e
      (λ s. (0, room_some f.kind, begins_left t p q f.name (print_number f.kind 0) (text_stops t f.name p s)))
      (λ u r s o.
      let n = text_read t f.name p s in
      let k = kind_stops t f.kind r o in
      (k.0, k.1, begins_right t p q r f.name (print_number f.kind k.0) n.0 n.1 k.2))

  -- and it goes as far as any begins there
  field_far : (f : Field) (v p m : ℕ) → v < room f.kind → m ≤ length (field_text f v) → Stands t p (take m (field_text f v))
      → p + m ≤ reached (read_field f t p)
  unfolding read_field
  field_far f v p m h = take_cases t p f.name (print_number f.kind v) (λ m. p + m ≤ reached (read_field f t p)) left right m
    where
      on : (u : Unit {0}) (q : ℕ) → q ≤ reached (read_kind f.kind t q)
      on u q = omega (arith, kind_far t f.kind 0 q 0 (room_some f.kind) (omega arith) tt)

      left : (m : ℕ) → m ≤ length f.name → Stands t p (take m f.name) → p + m ≤ reached (read_field f t p)
      left m l st =
          omega (arith, text_far t f.name p m l st, then_on (read_text f.name t p) (λ u q. read_kind f.kind t q) on)

      right : (m : ℕ) → suc m ≤ length (print_number f.kind v) → Stands t p f.name
          → Stands t (p + length f.name) (take (suc m) (print_number f.kind v)) → p + (length f.name + suc m) ≤ reached (read_field f t p)
      right m l st more = rw (text_reads t f.name p st) (omega (arith, kind_far t f.kind v (p + length f.name) (suc m) h l more))

-- ---- a form

-- a text begins with no digit also where more follows
no_digit_append : (a b : List ℕ) → NoDigitFirst a → NoDigitFirst (a ++ b)
no_digit_append [] b h = absurd h
no_digit_append (c ∷ a) b h = h

-- so what is printed begins with none where its first text does not
print_no_digit : (fs : List Field) (close vs : List ℕ) → NoDigitFirst (first_text fs close) → NoDigitFirst (print_form fs close vs)
unfolding print_form
print_no_digit [] close vs h = h
print_no_digit (f ∷ fs) close [] h = no_digit_append (field_text f 0) (print_form fs close []) (no_digit_append f.name (print_number f.kind 0) h)
print_no_digit (f ∷ fs) close (v ∷ vs) h = no_digit_append (field_text f v) (print_form fs close vs) (no_digit_append f.name (print_number f.kind v) h)

-- zeros have room
abbrev zeros : List Field → List ℕ
zeros [] = []
zeros (f ∷ fs) = 0 ∷ zeros fs

zeros-room : (fs : List Field) → Room fs (zeros fs)
unfolding Room
zeros-room [] = tt
zeros-room (f ∷ fs) = (room_some f.kind, zeros-room fs)

-- a number holds characters only, and so does a field whose name does
number_chars : (k : Kind) (v : ℕ) → all_chars (print_number k v) ≡ true
number_chars (up_to most) v = digits_are_chars (hex v) (hex-digits v)
number_chars (exactly w) v = digits_are_chars (hex_in w v) (hex_in_digits w v)

field_chars : (f : Field) (v : ℕ) → all_chars f.name ≡ true → all_chars (field_text f v) ≡ true
field_chars f v h = chars_append f.name (print_number f.kind v) h (number_chars f.kind v)

-- and a text of a form whose names and close do
pub print_chars : (fs : List Field) (close vs : List ℕ) → AllChars fs close → all_chars (print_form fs close vs) ≡ true
unfolding print_form
print_chars [] close vs h = h
print_chars (f ∷ fs) close [] h = chars_append (field_text f 0) (print_form fs close []) (field_chars f 0 h.0) (print_chars fs close [] h.1)
print_chars (f ∷ fs) close (v ∷ vs) h = chars_append (field_text f v) (print_form fs close vs) (field_chars f v h.0) (print_chars fs close vs h.1)

module _ (close t : List ℕ) where
  -- where a text that begins with no digit begins, there is none
  no_digit_begins : (s : List ℕ) (m p : ℕ) → NoDigitFirst s → Stands t p (take (suc m) s) → is_digit (char_at t p) ≡ false
  no_digit_begins [] m p h st = absurd h
  no_digit_begins (c ∷ s) m p h st = rw st.0 h

  -- a text of the form is read to its values, up to its end
  pub read_printed : (fs : List Field) (p : ℕ) (vs : List ℕ) → Separate fs close → Room fs vs → Stands t p (print_form fs close vs)
      → read_form fs close t p ≡ got vs (p + length (print_form fs close vs))
  unfolding print_form Room read_form
  read_printed [] p [] sep h st = rw (text_reads t close p st)
  read_printed [] p (v ∷ vs) sep h st = absurd h
  read_printed (f ∷ fs) p [] sep h st = absurd h
  read_printed (f ∷ fs) p (v ∷ vs) sep h st =
      let parts = stands_split t p (field_text f v) (print_form fs close vs) st in
      let rest : List ℕ = print_form fs close vs in
      let q : ℕ = p + length (field_text f v) in
      let after : is_digit (char_at t q) ≡ false =
      no_digit_begins rest (length rest) q (print_no_digit fs close vs sep.0) (rw (take_all (suc (length rest)) rest (omega arith)) parts.1) in
      let l : p + length (field_text f v ++ rest) ≡ q + length rest = omega (arith, length-append (field_text f v) rest) in
      rw (field_reads t f v p h.0 parts.0 after, read_printed fs q vs sep.1 h.1 parts.1, l)

  -- what is read is the text of its values, and they have room
  pub print_read : (fs : List Field) (p : ℕ) {vs : List ℕ} {q : ℕ} → read_form fs close t p ≡ got vs q
      → Room fs vs × Stands t p (print_form fs close vs) × (q ≡ p + length (print_form fs close vs))
  unfolding print_form Room read_form
  print_read [] p {vs} {q} e =
      let s = then_got (read_text close t p) (λ u r. got [] r) e in
      let c = text_read t close p s.2 in
      let none : [] ≡ vs = cc in
      let same : s.1 ≡ q = cc in
      rw (← none) (tt, c.0, omega arith)
  print_read (f ∷ fs) p {vs} {q} e =
      let s = then_got (read_field f t p) (λ v r. and_then (read_form fs close t r) (λ vs o. got (v ∷ vs) o)) e in
      let o = then_got (read_form fs close t s.1) (λ vs o. got (s.0 ∷ vs) o) s.3 in
      let k = field_read t f p s.2 in
      let r = print_read fs s.1 o.2 in
      let both : s.0 ∷ o.0 ≡ vs = cc in
      let same : o.1 ≡ q = cc in
      let rest : Stands t (p + length (field_text f s.0)) (print_form fs close o.0) =
      subst (λ (x : ℕ). Stands t x (print_form fs close o.0)) k.2 r.1 in
      rw (← both) ((k.0, r.0), stands_join t p (field_text f s.0) (print_form fs close o.0) k.1 rest, rw length-append (omega arith))

  -- where the reader stops it has read the beginning of a text of the form
  pub stop_begins : (fs : List Field) (p : ℕ) {q : ℕ} → read_form fs close t p ≡ stop q
      → (vs : List ℕ) × Room fs vs × Begins t p q (print_form fs close vs)
  unfolding print_form Room read_form
  stop_begins [] p e = ([], tt, text_stops t close p (made_stop (read_text close t p) (λ u. []) e))
  stop_begins (f ∷ fs) p {q} e =
      then_stop
      (read_field f t p)
      (λ v r. and_then (read_form fs close t r) (λ vs o. got (v ∷ vs) o))
      e
      (λ s.
      let k = field_stops t f p s in
      (k.0 ∷ zeros fs, (k.1, zeros-room fs), begins_left t p q (field_text f k.0) (print_form fs close (zeros fs)) k.2))
      (λ v r s o.
      let k = field_read t f p s in
      let b = stop_begins fs r (made_stop (read_form fs close t r) (λ vs. v ∷ vs) o) in
      (v ∷ b.0, (k.0, b.1), begins_right t p q r (field_text f v) (print_form fs close b.0) k.1 k.2 b.2))

  -- it never goes back
  form_on : (fs : List Field) (p : ℕ) → p ≤ reached (read_form fs close t p)
  unfolding read_form
  form_on [] p = rw (made_reached (read_text close t p) (λ u. [])) (omega (arith, text_far t close p 0 (omega arith) tt))
  form_on (f ∷ fs) p =
      omega (
        arith,
        field_far t f 0 p 0 (room_some f.kind) (omega arith) tt,
        then_on (read_field f t p) (λ v q. and_then (read_form fs close t q) (λ vs r. got (v ∷ vs) r))
            (λ v q. rw (made_reached (read_form fs close t q) (λ vs. v ∷ vs)) (form_on fs q)),
      )

  -- it goes as far as any text of the form begins there
  pub reads_far : (fs : List Field) (p : ℕ) (vs : List ℕ) (m : ℕ) → Separate fs close → Room fs vs → m ≤ length (print_form fs close vs)
      → Stands t p (take m (print_form fs close vs)) → p + m ≤ reached (read_form fs close t p)
  unfolding print_form Room read_form
  reads_far [] p [] m sep h l st = rw (made_reached (read_text close t p) (λ u. [])) (text_far t close p m l st)
  reads_far [] p (v ∷ vs) m sep h l st = absurd h
  reads_far (f ∷ fs) p [] m sep h l st = absurd h
  reads_far (f ∷ fs) p (v ∷ vs) m sep h l st =
      take_cases t p (field_text f v) (print_form fs close vs) (λ m. p + m ≤ reached (read_form (f ∷ fs) close t p))
      (λ m i a.
      omega (
        arith,
        field_far t f v p m h.0 i a,
        then_on (read_field f t p) (λ v q. and_then (read_form fs close t q) (λ vs r. got (v ∷ vs) r))
            (λ v q. rw (made_reached (read_form fs close t q) (λ vs. v ∷ vs)) (form_on fs q)),
      ))
      (λ m i a b.
      let q : ℕ = p + length (field_text f v) in
      rw (
        field_reads t f v p h.0 a (no_digit_begins (print_form fs close vs) m q (print_no_digit fs close vs sep.0) b),
        made_reached (read_form fs close t q) (λ vs. v ∷ vs),
      )
      (omega (arith, reads_far fs q vs (suc m) sep.1 h.1 i b)))
      m l st

  -- so no text of the form goes on with the character where it stopped
  pub stop_first : (fs : List Field) (p : ℕ) (vs : List ℕ) (m : ℕ) {q : ℕ} → Separate fs close → Room fs vs → m ≤ length (print_form fs close vs)
      → Stands t p (take m (print_form fs close vs)) → read_form fs close t p ≡ stop q → p + m ≤ q
  stop_first fs p vs m sep h l st e = rw (ap reached e) at (reads_far fs p vs m sep h l st)

  -- what is read ends inside of the text, or where it began
  pub got_inside : (fs : List Field) (p : ℕ) {vs : List ℕ} {q : ℕ} → AllChars fs close → read_form fs close t p ≡ got vs q
      → (p ≤ q) × (q ≤ max p (length t))
  got_inside fs p {vs} c e =
      let r = print_read fs p e in
      let i = stands_inside t p (print_form fs close vs) (print_chars fs close vs c) r.1 in
      (omega arith, omega arith)

  -- and so does what is read before the reader stops
  pub stop_inside : (fs : List Field) (p : ℕ) {q : ℕ} → AllChars fs close → read_form fs close t p ≡ stop q → (p ≤ q) × (q ≤ max p (length t))
  stop_inside fs p c e =
      let r = stop_begins fs p e in
      let b = r.2 in
      let text : List ℕ = print_form fs close r.0 in
      let i = stands_inside t p (take b.many text) (chars_take b.many text (print_chars fs close r.0 c)) b.stand in
      (omega (arith, b.place), omega (arith, b.place, b.more, length-take-le b.many text (omega (arith, b.more))))
