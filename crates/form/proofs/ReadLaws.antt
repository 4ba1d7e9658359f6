-- Laws of the readers, for each of them four: it reads what is written, what it reads is written there, where it stops it has read the beginning of
-- what it reads, and it goes as far as any beginning that stands there.
use Prim.Native.Nat.{ℕ, zero, suc, ◌+◌, ◌*◌, ◌-◌, ◌^◌, ◌≤◌, ◌<◌}
use mathlib.Core.Bool.{Bool, true, false}
use mathlib.Core.List.{List, [], ◌∷◌, ◌++◌, map, map-append}
use mathlib.Core.Path.{◌≡◌, refl, sym, ◌∙◌, ap}
use native.Mathlib.Nat.{add-zero, zero-add, pow-zero, one-le-pow, pow-le-pow_right}
use native.Mathlib.Omega.{arith}
use borrow.Author.Tests.{eq-eqb, eqb-true, eqb-false, le-ltb, ltb-true, ltb-false}
use lib.Dec.{eqb, ltb}
use lib.ListN.{length, take, length-map, length-append, replicate, length-replicate}
use lib.Seq.{take-length, take_at, get_or-take, length-take-le}
use Rattle.number.specs.Digits.{digits, digits_in, spell_after, spell, AllBelow}
use Rattle.number.specs.Tests.{pick}
use Rattle.number.proofs.DigitLaws.{below-append, spell-lt, spell-digits, digits-below, length_digits_pos, length_digits_in, spell_digits_in, digits_in_below}
use Rattle.number.proofs.TestLaws.{clash}
use Rattle.form.specs.Hex.{code_0, digit_code, is_digit, digit_of, hex, hex_in}
use Rattle.form.specs.Read.{Read, got, stop, and_then, no_char, char_at, read_text, Run, run, read_digits, read_number}
use Rattle.form.specs.Form.{Kind, up_to, exactly, print_number, room, read_kind, Stands, Begins}
use Rattle.form.proofs.HexLaws.{base, code_is_digit, digit_of_code, digit_of_lt, code_of_digit, hex_small, hex-spell, length_hex_pos, length-hex, hex-first, hex_in_spell, length_hex_in}
use Rattle.form.proofs.TextLaws.{stands_first}

-- ---- answers

-- the place where a reader ended
abbrev pub reached : {A : Type 0} → Read A → ℕ
reached (got a p) = p
reached (stop p) = p

module _ {A B : Type 0} where
  -- what two readers answer, one after the other, comes from both
  pub then_got : (r : Read A) (f : A → ℕ → Read B) {b : B} {q : ℕ} → and_then r f ≡ got b q → (a : A) × (p : ℕ) × (r ≡ got a p) × (f a p ≡ got b q)
  then_got (got a p) f e = (a, p, refl, e)
  then_got (stop p) f e = clash cc

  -- and where they stop, the first did, or the second after the first
  pub then_stop : (r : Read A) (f : A → ℕ → Read B) {q : ℕ} {C : Type 0} → and_then r f ≡ stop q
      → (r ≡ stop q → C) → ((a : A) (p : ℕ) → r ≡ got a p → f a p ≡ stop q → C) → C
  then_stop (got a p) f e first second = second a p refl e
  then_stop (stop p) f e first second = first (cc)

  -- a reader whose value is changed ends where it did, and stops where it did
  pub made_reached : (r : Read A) (g : A → B) → reached (and_then r (λ a p. got (g a) p)) ≡ reached r
  made_reached (got a p) g = refl
  made_reached (stop p) g = refl

  pub made_stop : (r : Read A) (g : A → B) {q : ℕ} → and_then r (λ a p. got (g a) p) ≡ stop q → r ≡ stop q
  made_stop (got a p) g e = clash cc
  made_stop (stop p) g e = cc

  -- the second goes on from where the first ended
  pub then_on : (r : Read A) (f : A → ℕ → Read B) → ((a : A) (p : ℕ) → p ≤ reached (f a p)) → reached r ≤ reached (and_then r f)
  then_on (got a p) f on = on a p
  then_on (stop p) f on = omega arith

module _ (t : List ℕ) where
  -- ---- given characters

  -- they are read where they stand
  pub text_reads : (s : List ℕ) (p : ℕ) → Stands t p s → read_text s t p ≡ got tt (p + length s)
  unfolding read_text
  text_reads [] p st = rw (add-zero p)
  text_reads (c ∷ s) p st =
      let e : p + suc (length s) ≡ suc p + length s = omega arith in
      rw (eq-eqb (char_at t p) c st.0, e) (text_reads s (suc p) st.1)

  -- they stand where they are read
  pub text_read : (s : List ℕ) (p : ℕ) {u : Unit} {q : ℕ} → read_text s t p ≡ got u q → Stands t p s × (q ≡ p + length s)
  unfolding read_text
  text_read [] p {u} {q} e = let same : p ≡ q = cc in (tt, omega arith)
  text_read (c ∷ s) p {u} {q} e = by (eqb (char_at t p) c) refl e (text_read s (suc p))
    where
      by : (b : Bool) → eqb (char_at t p) c ≡ b → pick b (read_text s t (suc p)) (stop p) ≡ got u q
          → (read_text s t (suc p) ≡ got u q → Stands t (suc p) s × (q ≡ suc p + length s)) → Stands t p (c ∷ s) × (q ≡ p + suc (length s))
      by true i e rest = let r = rest e in ((eqb-true (char_at t p) c i, r.0), omega arith)
      by false i e rest = clash cc

  -- where the reader stops, those before stand there
  pub text_stops : (s : List ℕ) (p : ℕ) {q : ℕ} → read_text s t p ≡ stop q → Begins t p q s
  unfolding read_text
  text_stops [] p {q} e = clash cc
  text_stops (c ∷ s) p {q} e = by (eqb (char_at t p) c) refl e (text_stops s (suc p))
    where
      by : (b : Bool) → eqb (char_at t p) c ≡ b → pick b (read_text s t (suc p)) (stop p) ≡ stop q
          → (read_text s t (suc p) ≡ stop q → Begins t (suc p) q s) → Begins t p q (c ∷ s)
      by true i e rest =
          let r = rest e in
          record { many = suc r.many; more = omega arith; place = omega arith; stand = (eqb-true (char_at t p) c i, r.stand) }
      by false i e rest = let same : p ≡ q = cc in record { many = 0; more = omega arith; place = omega arith; stand = tt }

  -- and it goes as far as they stand there
  pub text_far : (s : List ℕ) (p m : ℕ) → m ≤ length s → Stands t p (take m s) → p + m ≤ reached (read_text s t p)
  unfolding read_text
  text_far [] p m h st = omega arith
  text_far (c ∷ s) p zero h st = by (eqb (char_at t p) c) (text_far s (suc p) 0 (omega arith) tt)
    where
      by : (b : Bool) → suc p + 0 ≤ reached (read_text s t (suc p)) → p + 0 ≤ reached (pick b (read_text s t (suc p)) (stop p))
      by true rest = omega arith
      by false rest = omega arith
  text_far (c ∷ s) p (suc m) h st = rw (eq-eqb (char_at t p) c st.0) (omega (arith, text_far s (suc p) m (omega arith) st.1))

  -- ---- a run of digits

  -- a digit is read
  pub run_on : (n v p : ℕ) → is_digit (char_at t p) ≡ true → run (suc n) t v p ≡ run n t (v * 16 + digit_of (char_at t p)) (suc p)
  unfolding run
  run_on n v p e = rw e

  -- and the run ends where there is none
  pub run_ends : (n v p : ℕ) → is_digit (char_at t p) ≡ false → run n t v p ≡ record { value = v; next = p }
  unfolding run
  run_ends zero v p e = refl
  run_ends (suc n) v p e = rw e

  -- a digit that stands there is read
  run-digit : (d n v p : ℕ) → d < 16 → char_at t p ≡ digit_code d → run (suc n) t v p ≡ run n t (v * 16 + d) (suc p)
  run-digit d n v p b e =
      run_on n v p (rw e (code_is_digit d b)) ∙ ap (λ (x : ℕ). run n t (v * 16 + x) (suc p)) (ap digit_of e ∙ digit_of_code d b)

  -- and digits that stand there, before the run goes on
  run-digits : (ds : List ℕ) (n v p : ℕ) → AllBelow 16 ds → Stands t p (map digit_code ds)
      → run (length ds + n) t v p ≡ run n t (spell_after 16 v ds) (p + length ds)
  unfolding spell_after
  run-digits [] n v p b st = rw (zero-add n, add-zero p)
  run-digits (d ∷ ds) n v p b st =
      let e : suc (length ds) + n ≡ suc (length ds + n) = omega arith in
      let f : p + suc (length ds) ≡ suc p + length ds = omega arith in
      rw (e, f) (run-digit d (length ds + n) v p b.0 st.0 ∙ run-digits ds n (v * 16 + d) (suc p) b.1 st.1)

  -- what a run reads
  record Ran (n v p : ℕ) : Type 0 where
    pub read : List ℕ
    pub below : AllBelow 16 read
    pub few : length read ≤ n
    pub stand : Stands t p (map digit_code read)
    pub value : (run n t v p).value ≡ spell_after 16 v read
    pub next : (run n t v p).next ≡ p + length read

  run_reads : (n v p : ℕ) → Ran n v p
  unfolding run spell_after
  run_reads zero v p = record { read = []; below = tt; few = omega arith; stand = tt; value = refl; next = omega arith }
  run_reads (suc n) v p = by (is_digit (char_at t p)) refl (run_reads n (v * 16 + digit_of (char_at t p)) (suc p))
    where
      by : (b : Bool) → is_digit (char_at t p) ≡ b → Ran n (v * 16 + digit_of (char_at t p)) (suc p) → Ran (suc n) v p
      by true i r =
          let e = run_on n v p i in
          record {
            read = digit_of (char_at t p) ∷ r.read;
            below = (digit_of_lt (char_at t p) i, r.below);
            few = omega arith;
            stand = (sym (code_of_digit (char_at t p) i), r.stand);
            value = ap (λ (x : Run). x.value) e ∙ r.value;
            next = ap (λ (x : Run). x.next) e ∙ r.next ∙ omega arith;
          }
      by false i r =
          let e = run_ends (suc n) v p i in
          record {
            read = [];
            below = tt;
            few = omega arith;
            stand = tt;
            value = ap (λ (x : Run). x.value) e;
            next = ap (λ (x : Run). x.next) e ∙ omega arith;
          }

  -- a run goes as far as digits stand there
  run_far : (ds : List ℕ) (m n v p : ℕ) → AllBelow 16 ds → m ≤ length ds → m ≤ n → Stands t p (take m (map digit_code ds)) → p + m ≤ (run n t v p).next
  run_far ds zero n v p b h l st = omega (arith, (run_reads n v p).next)
  run_far [] (suc m) n v p b h l st = absurd (omega arith)
  run_far (d ∷ ds) (suc m) zero v p b h l st = absurd (omega arith)
  run_far (d ∷ ds) (suc m) (suc n) v p b h l st =
      omega (
        arith,
        ap (λ (x : Run). x.next) (run-digit d n v p b.0 st.0),
        run_far ds m n (v * 16 + d) (suc p) b.1 (omega arith) (omega arith) st.1,
      )

  -- ---- digits, at least so many and at most so many

  -- digits are read where they stand and the run ends behind them
  digits_reads : (ds : List ℕ) (least n p : ℕ) → AllBelow 16 ds → least ≤ length ds → Stands t p (map digit_code ds)
      → run n t (spell 16 ds) (p + length ds) ≡ record { value = spell 16 ds; next = p + length ds }
      → read_digits least (length ds + n) t p ≡ got (spell 16 ds) (p + length ds)
  unfolding read_digits
  digits_reads ds least n p b h st e =
      rw (run-digits ds n 0 p b st, e, le-ltb (p + length ds) (p + least) (omega arith))

  -- what is read is the run, and there are enough digits
  digits_read : (least most p : ℕ) {v q : ℕ} → read_digits least most t p ≡ got v q
      → (p + least ≤ q) × (v ≡ (run most t 0 p).value) × (q ≡ (run most t 0 p).next)
  unfolding read_digits
  digits_read least most p {v} {q} e = by (ltb (run most t 0 p).next (p + least)) refl e
    where
      r : Run
      r = run most t 0 p

      by : (b : Bool) → ltb r.next (p + least) ≡ b → pick b (stop r.next) (got r.value r.next) ≡ got v q
          → (p + least ≤ q) × (v ≡ r.value) × (q ≡ r.next)
      by true i e = clash cc
      by false i e =
          let same : r.next ≡ q = cc in
          (omega (arith, ltb-false r.next (p + least) i), cc, cc)

  -- where the reader stops, the run ended, and there are too few
  digits_stop : (least most p : ℕ) {q : ℕ} → read_digits least most t p ≡ stop q → (q < p + least) × (q ≡ (run most t 0 p).next)
  unfolding read_digits
  digits_stop least most p {q} e = by (ltb (run most t 0 p).next (p + least)) refl e
    where
      r : Run
      r = run most t 0 p

      by : (b : Bool) → ltb r.next (p + least) ≡ b → pick b (stop r.next) (got r.value r.next) ≡ stop q
          → (q < p + least) × (q ≡ r.next)
      by true i e =
          let same : r.next ≡ q = cc in
          (omega (arith, ltb-true r.next (p + least) i), cc)
      by false i e = clash cc

  -- in any case it ends where the run does
  digits-reached : (least most p : ℕ) → reached (read_digits least most t p) ≡ (run most t 0 p).next
  unfolding read_digits
  digits-reached least most p = by (ltb (run most t 0 p).next (p + least))
    where
      r : Run
      r = run most t 0 p

      by : (b : Bool) → reached (pick b (stop r.next) (got r.value r.next)) ≡ r.next
      by true = refl
      by false = refl

  -- digits spell a number that has room
  digits-room : (ds : List ℕ) (most : ℕ) → AllBelow 16 ds → length ds ≤ most → spell 16 ds < 16 ^ most
  digits-room ds most b h =
      omega
      (arith, spell-lt 16 0 ds 0 (omega (arith, pow-zero 16)) b, pow-le-pow_right {n = 16} (omega arith) {i = 0 + length ds} {j = most} (omega arith))

  -- ---- a number without leading zero

  -- only 0 has room in no digits
  some_room : (v most : ℕ) → v < 16 ^ most → (v ≡ 0 → ⊥) → 1 ≤ most
  some_room v zero h ne = absurd (ne (omega (arith, pow-zero 16)))
  some_room v (suc k) h ne = omega arith

  -- as many of its digits as stand there may be read
  number_few : (v most p m : ℕ) → v < 16 ^ most → m ≤ length (hex v) → Stands t p (take m (hex v)) → m ≤ pick (eqb (char_at t p) code_0) 1 most
  number_few v most p zero h l st = omega arith
  number_few v most p (suc m) h l st = by (eqb (char_at t p) code_0) refl
    where
      first : char_at (hex v) 0 ≡ char_at t p
      first =
          sym (get_or-take (suc m) (hex v) 0 no_char (omega arith))
          ∙ stands_first t p (take (suc m) (hex v)) (omega (arith, length-take-le (suc m) (hex v) l)) st

      zero-first : v ≡ 0 → char_at (hex v) 0 ≡ code_0
      zero-first z = ap (λ (x : ℕ). char_at (hex x) 0) z ∙ ap (λ (s : List ℕ). char_at s 0) (hex_small 0 (omega arith))

      by : (b : Bool) → eqb (char_at t p) code_0 ≡ b → suc m ≤ pick b 1 most
      by true i =
          let z : v ≡ 0 = hex-first v (first ∙ eqb-true (char_at t p) code_0 i) in
          omega (arith, ap (λ (x : ℕ). length (hex x)) z, ap length (hex_small 0 (omega arith)))
      by false i =
          omega
          (arith, length-hex v most (some_room v most h (λ z. eqb-false (char_at t p) code_0 i (sym first ∙ zero-first z))) h)

  -- it is read where it stands and no digit follows
  number_reads : (v most p : ℕ) → v < 16 ^ most → Stands t p (hex v) → is_digit (char_at t (p + length (hex v))) ≡ false
      → read_number most t p ≡ got v (p + length (hex v))
  unfolding read_number hex
  number_reads v most p h st e =
      let n : ℕ = pick (eqb (char_at t p) code_0) 1 most in
      let ds : List ℕ = digits 16 v in
      let same : length (hex v) ≡ length ds = length-map ds digit_code in
      let split : n ≡ length ds + (n - length ds) = omega (arith, number_few v most p (length (hex v)) h (omega arith) (rw (take-length (hex v)) st)) in
      ap (λ (k : ℕ). read_digits 1 k t p) split
      ∙ digits_reads ds 1 (n - length ds) p (digits-below 16 base v) (length_digits_pos 16 base v) st
      (run_ends (n - length ds) (spell 16 ds) (p + length ds) (rw same at e))
      ∙ rw (spell-digits 16 base v, same)

  -- it stands where it is read, if a zero in front is read alone
  number-written : (n p : ℕ) {v q : ℕ} → read_digits 1 n t p ≡ got v q → (char_at t p ≡ code_0 → n ≤ 1)
      → (v < 16 ^ n) × Stands t p (hex v) × (q ≡ p + length (hex v))
  number-written n p {v} {q} e one =
      let r = run_reads n 0 p in
      let a = digits_read 1 n p e in
      let ds : List ℕ = r.read in
      let same : v ≡ spell 16 ds = a.1 ∙ r.value in
      let some : 1 ≤ length ds = omega (arith, a.0, a.2, r.next) in
      let first : char_at (map digit_code ds) 0 ≡ char_at t p = stands_first t p (map digit_code ds) (rw length-map some) r.stand in
      let w : hex v ≡ map digit_code ds = ap hex same ∙ hex-spell ds some r.below (λ z. omega (arith, one (sym first ∙ z), r.few)) in
      (rw same (digits-room ds n r.below r.few), rw w r.stand, rw (w, length-map) (a.2 ∙ r.next))

  -- which it is
  number_read : (most p : ℕ) {v q : ℕ} → read_number most t p ≡ got v q → (v < 16 ^ most) × Stands t p (hex v) × (q ≡ p + length (hex v))
  unfolding read_number
  number_read most p {v} {q} e = by (eqb (char_at t p) code_0) refl e
    where
      by : (b : Bool) → eqb (char_at t p) code_0 ≡ b → read_digits 1 (pick b 1 most) t p ≡ got v q
          → (v < 16 ^ most) × Stands t p (hex v) × (q ≡ p + length (hex v))
      by true i e =
          let r = number-written 1 p e (λ z. omega arith) in
          let z : v ≡ 0 = hex-first v (stands_first t p (hex v) (length_hex_pos v) r.1 ∙ eqb-true (char_at t p) code_0 i) in
          (omega (arith, one-le-pow most 16 (omega arith)), r.1, r.2)
      by false i e = number-written most p e (λ z. absurd (eqb-false (char_at t p) code_0 i z))

  -- the reader goes as far as any number of the kind begins there
  number_far : (v most p m : ℕ) → v < 16 ^ most → m ≤ length (hex v) → Stands t p (take m (hex v)) → p + m ≤ reached (read_number most t p)
  unfolding read_number hex
  number_far v most p m h l st =
      rw (digits-reached 1 (pick (eqb (char_at t p) code_0) 1 most) p)
      (run_far (digits 16 v) m (pick (eqb (char_at t p) code_0) 1 most) 0 p (digits-below 16 base v) (rw length-map at l) (number_few v most p m h l st) st)

  -- ---- a number of any kind

  -- it is read where it stands and no digit follows
  pub kind_reads : (k : Kind) (v p : ℕ) → v < room k → Stands t p (print_number k v) → is_digit (char_at t (p + length (print_number k v))) ≡ false
      → read_kind k t p ≡ got v (p + length (print_number k v))
  unfolding hex_in run
  kind_reads (up_to most) v p h st e = number_reads v most p h st e
  kind_reads (exactly w) v p h st e =
      let ds : List ℕ = digits_in 16 w v in
      let many : length ds ≡ w = length_digits_in 16 base w v in
      ap (λ (k : ℕ). read_digits w k t p) (omega arith)
      ∙ digits_reads ds w 0 p (digits_in_below 16 base w v) (omega arith) st refl
      ∙ rw (spell_digits_in 16 base w v h, length-map)

  -- it stands where it is read, and has room
  pub kind_read : (k : Kind) (p : ℕ) {v q : ℕ} → read_kind k t p ≡ got v q → (v < room k) × Stands t p (print_number k v) × (q ≡ p + length (print_number k v))
  kind_read (up_to most) p e = number_read most p e
  kind_read (exactly w) p {v} {q} e =
      let r = run_reads w 0 p in
      let a = digits_read w w p e in
      let ds : List ℕ = r.read in
      let same : v ≡ spell 16 ds = a.1 ∙ r.value in
      let many : w ≡ length ds = omega (arith, a.0, a.2, r.next, r.few) in
      let x : hex_in w v ≡ map digit_code ds = ap (λ (k : ℕ). hex_in k v) many ∙ ap (hex_in (length ds)) same ∙ hex_in_spell ds r.below in
      (rw same (digits-room ds w r.below r.few), rw x r.stand, rw (x, length-map) (a.2 ∙ r.next))

  -- where the reader stops it has read the beginning of a number of the kind: of 0, or of the digits that it read and zeros
  pub kind_stops : (k : Kind) (p : ℕ) {q : ℕ} → read_kind k t p ≡ stop q → (v : ℕ) × (v < room k) × Begins t p q (print_number k v)
  unfolding read_number
  kind_stops (up_to most) p {q} e =
      let n : ℕ = pick (eqb (char_at t p) code_0) 1 most in
      let a = digits_stop 1 n p e in (
        0,
        one-le-pow most 16 (omega arith),
        record { many = 0; more = length_hex_pos 0; place = omega (arith, a.0, a.1, (run_reads n 0 p).next); stand = tt },
      )
  kind_stops (exactly w) p {q} e =
      let r = run_reads w 0 p in
      let a = digits_stop w w p e in
      let ds : List ℕ = r.read in
      let zs : List ℕ = replicate (w - length ds) 0 in
      let less : length ds < w = omega (arith, a.0, a.1, r.next) in
      let below : AllBelow 16 (ds ++ zs) = below-append 16 ds zs r.below (zeros (w - length ds)) in
      let many : length (ds ++ zs) ≡ w = rw (length-append, length-replicate) (omega arith) in
      let x : hex_in w (spell 16 (ds ++ zs)) ≡ map digit_code ds ++ map digit_code zs =
      ap (λ (k : ℕ). hex_in k (spell 16 (ds ++ zs))) (sym many) ∙ hex_in_spell (ds ++ zs) below ∙ map-append digit_code ds zs in (
        spell 16 (ds ++ zs),
        digits-room (ds ++ zs) w below (omega arith),
        record {
          many = length ds;
          more = rw length_hex_in less;
          place = a.1 ∙ r.next;
          stand = rw (x, take_at (map digit_code ds) (map digit_code zs) (length ds) (length-map ds digit_code)) r.stand;
        },
      )
    where
      zeros : (n : ℕ) → AllBelow 16 (replicate n 0)
      zeros zero = tt
      zeros (suc n) = (omega arith, zeros n)

  -- and it goes as far as any number of the kind begins there
  pub kind_far : (k : Kind) (v p m : ℕ) → v < room k → m ≤ length (print_number k v) → Stands t p (take m (print_number k v))
      → p + m ≤ reached (read_kind k t p)
  unfolding hex_in
  kind_far (up_to most) v p m h l st = number_far v most p m h l st
  kind_far (exactly w) v p m h l st =
      rw (digits-reached w w p) (run_far (digits_in 16 w v) m w 0 p (digits_in_below 16 base w v) (rw length-map at l) (omega (arith, length_hex_in w v)) st)
