-- Laws of numbers in lower-case hex: a digit and its character are one thing, reading the digits gives the number back, and no number but 0 begins
-- with a zero. All but those of one character come from the laws of digits at any base.
use Prim.Native.Nat.{ℕ, zero, suc, ◌+◌, ◌-◌, ◌*◌, ◌^◌, ◌≤◌, ◌<◌}
use mathlib.Core.Bool.{Bool, true, false, ◌&&◌}
use mathlib.Core.List.{List, [], ◌∷◌, ◌++◌, map, map-append, append-nil}
use mathlib.Core.Logic.{◌⊎◌, inl, inr, ⊎_elim}
use mathlib.Core.Path.{◌≡◌, refl, sym, ◌∙◌, ap}
use native.Mathlib.Nat.{add-zero, zero-add}
use native.Mathlib.Omega.{arith}
use borrow.Author.Tests.{lt-ltb, le-ltb, ltb-true, ltb-false, le-leb, lt-leb, leb-true}
use lib.Dec.{leb, ltb}
use lib.ListN.{length, get_or, length-map, replicate}
use lib.Seq.{append_snoc}
use Rattle.number.specs.Digits.{digits_within, digits, digits_in, spell_after, spell, AllBelow}
use Rattle.number.specs.Tables.{every}
use Rattle.number.proofs.DigitLaws.{digits_small, digits_more, digits-below, spell-digits, length_digits_pos, length_digits, digits-first, digits_in_more, digits_in_below, length_digits_in, spell_digits_in}
use Rattle.number.proofs.TestLaws.{both, both_intro, either, either_left, either_right}
use Rattle.form.specs.Ascii.{ascii}
use Rattle.form.specs.Hex.{code_0, code_9, code_a, code_f, digit_code, is_digit, digit_of, hex, hex_in}
use Rattle.form.specs.Read.{no_char, char_at, all_chars}

-- ---- one digit

-- the code of a digit below 10 and of one from 10 on
code_small : (d : ℕ) → d < 10 → digit_code d ≡ code_0 + d
code_small d h = rw (lt-ltb d 10 h)

code_large : (d : ℕ) → 10 ≤ d → digit_code d ≡ code_a + (d - 10)
code_large d h = rw (le-ltb d 10 h)

-- a character from `0` to `9` or from `a` to `f` is a digit
small_is_digit : (c : ℕ) → code_0 ≤ c → c ≤ code_9 → is_digit c ≡ true
unfolding is_digit
small_is_digit c h l =
    either_left (leb code_0 c && leb c code_9) (leb code_a c && leb c code_f)
    (both_intro (leb code_0 c) (leb c code_9) (le-leb code_0 c h) (le-leb c code_9 l))

large_is_digit : (c : ℕ) → code_a ≤ c → c ≤ code_f → is_digit c ≡ true
unfolding is_digit
large_is_digit c h l =
    either_right (leb code_0 c && leb c code_9) (leb code_a c && leb c code_f)
    (both_intro (leb code_a c) (leb c code_f) (le-leb code_a c h) (le-leb c code_f l))

-- and no other
digit_cases : (c : ℕ) → is_digit c ≡ true → ((code_0 ≤ c) × (c ≤ code_9)) ⊎ ((code_a ≤ c) × (c ≤ code_f))
unfolding is_digit
digit_cases c e =
    ⊎_elim
    (λ h. let b = both (leb code_0 c) (leb c code_9) h in inl (leb-true code_0 c b.0, leb-true c code_9 b.1))
    (λ h. let b = both (leb code_a c) (leb c code_f) h in inr (leb-true code_a c b.0, leb-true c code_f b.1))
    (either (leb code_0 c && leb c code_9) (leb code_a c && leb c code_f) e)

-- what they count
of_small : (c : ℕ) → c ≤ code_9 → digit_of c ≡ c - code_0
unfolding digit_of
of_small c h = rw (le-leb c code_9 h)

of_large : (c : ℕ) → code_9 < c → digit_of c ≡ c - code_a + 10
unfolding digit_of
of_large c h = rw (lt-leb c code_9 h)

-- what holds of a digit below 10 and its code, and of one from 10 on and its code, holds of every digit
module _ (P : ℕ → ℕ → Type 0) (small : (d : ℕ) → d < 10 → P d (code_0 + d))
    (large : (d : ℕ) → 10 ≤ d → d < 16 → P d (code_a + (d - 10))) where
  code_induction : (d : ℕ) → d < 16 → P d (digit_code d)
  code_induction d h = by (ltb d 10) refl
    where
      by : (t : Bool) → ltb d 10 ≡ t → P d (digit_code d)
      by true e = rw (code_small d (ltb-true d 10 e)) (small d (ltb-true d 10 e))
      by false e = rw (code_large d (ltb-false d 10 e)) (large d (ltb-false d 10 e) h)

-- the code of a digit is a digit's
pub code_is_digit : (d : ℕ) → d < 16 → is_digit (digit_code d) ≡ true
code_is_digit = code_induction (λ d c. is_digit c ≡ true) (λ d h. small_is_digit (code_0 + d) (omega arith) (omega arith))
    (λ d h l. large_is_digit (code_a + (d - 10)) (omega arith) (omega arith))

-- and counts what the digit does
pub digit_of_code : (d : ℕ) → d < 16 → digit_of (digit_code d) ≡ d
digit_of_code = code_induction (λ d c. digit_of c ≡ d) (λ d h. rw (of_small (code_0 + d) (omega arith)) (omega arith))
    (λ d h l. rw (of_large (code_a + (d - 10)) (omega arith)) (omega arith))

-- a digit's character counts less than 16
pub digit_of_lt : (c : ℕ) → is_digit c ≡ true → digit_of c < 16
digit_of_lt c e =
    ⊎_elim (λ h. rw (of_small c h.1) (omega arith)) (λ h. rw (of_large c (omega arith)) (omega arith)) (digit_cases c e)

-- and is the code of what it counts
pub code_of_digit : (c : ℕ) → is_digit c ≡ true → digit_code (digit_of c) ≡ c
code_of_digit c e =
    ⊎_elim
    (λ h. rw (of_small c h.1) (code_small (c - code_0) (omega arith) ∙ omega arith))
    (λ h. rw (of_large c (omega arith)) (code_large (c - code_a + 10) (omega arith) ∙ omega arith))
    (digit_cases c e)

-- only the digit 0 is written `0`
pub code_zero : (d : ℕ) → d < 16 → digit_code d ≡ code_0 → d ≡ 0
code_zero = code_induction (λ d c. c ≡ code_0 → d ≡ 0) (λ d h e. omega arith) (λ d h l e. omega arith)

-- digits are characters
pub digits_are_chars : (s : List ℕ) → every is_digit s ≡ true → all_chars s ≡ true
digits_are_chars [] h = refl
digits_are_chars (c ∷ s) h =
    let b = both (is_digit c) (every is_digit s) h in
    let l : c < no_char = ⊎_elim (λ (r : (code_0 ≤ c) × (c ≤ code_9)). omega arith) (λ r. omega arith) (digit_cases c b.0) in
    both_intro (ltb c no_char) (all_chars s) (lt-ltb c no_char l) (digits_are_chars s b.1)

-- digits are written in digits
pub codes_are_digits : (ds : List ℕ) → AllBelow 16 ds → every is_digit (map digit_code ds) ≡ true
codes_are_digits [] h = refl
codes_are_digits (d ∷ ds) h =
    both_intro (is_digit (digit_code d)) (every is_digit (map digit_code ds)) (code_is_digit d h.0) (codes_are_digits ds h.1)

-- and read back from their characters
pub codes_read : (ds : List ℕ) → AllBelow 16 ds → map digit_of (map digit_code ds) ≡ ds
codes_read [] h = refl
codes_read (d ∷ ds) h = rw (digit_of_code d h.0, codes_read ds h.1)

-- ---- numbers without leading zero

-- 16 is a base
pub base : 1 < 16
base = omega arith

-- a number below 16 is its digit
pub hex_small : (d : ℕ) → d < 16 → hex d ≡ digit_code d ∷ []
unfolding hex
hex_small d h = ap (map digit_code) (digits_small 16 base d h)

-- one digit more behind a number that is not 0
pub hex_more : (v d : ℕ) → 1 ≤ v → d < 16 → hex (v * 16 + d) ≡ hex v ++ (digit_code d ∷ [])
unfolding hex
hex_more v d h l = ap (map digit_code) (digits_more 16 base v d h l) ∙ map-append digit_code (digits 16 v) (d ∷ [])

-- more digits behind a number that is not 0
hex-after : (v : ℕ) (ds : List ℕ) → 1 ≤ v → AllBelow 16 ds → hex (spell_after 16 v ds) ≡ hex v ++ map digit_code ds
unfolding spell_after
hex-after v [] h b = sym (append-nil (hex v))
hex-after v (d ∷ ds) h b =
    hex-after (v * 16 + d) ds (omega arith) b.1
    ∙ ap (λ (l : List ℕ). l ++ map digit_code ds) (hex_more v d h b.0)
    ∙ append_snoc (hex v) (digit_code d) (map digit_code ds)

-- digits are those of the number that they spell, if a zero in front stands alone
pub hex-spell : (ds : List ℕ) → 1 ≤ length ds → AllBelow 16 ds → (char_at (map digit_code ds) 0 ≡ code_0 → length ds ≤ 1)
    → hex (spell 16 ds) ≡ map digit_code ds
unfolding spell_after
hex-spell [] h b alone = absurd (omega arith)
hex-spell (zero ∷ []) h b alone = hex_small 0 (omega arith)
hex-spell (zero ∷ d ∷ ds) h b alone = absurd (omega (arith, alone refl))
hex-spell (suc d ∷ ds) h b alone =
    rw (zero-add (suc d)) (hex-after (suc d) ds (omega arith) b.1 ∙ ap (λ (l : List ℕ). l ++ map digit_code ds) (hex_small (suc d) b.0))

-- every character is a digit
pub hex-digits : (n : ℕ) → every is_digit (hex n) ≡ true
unfolding hex
hex-digits n = codes_are_digits (digits 16 n) (digits-below 16 base n)

-- there is one at least
pub length_hex_pos : (n : ℕ) → 1 ≤ length (hex n)
unfolding hex
length_hex_pos n = rw length-map (length_digits_pos 16 base n)

-- a number below 16 ^ most has at most so many
pub length-hex : (n most : ℕ) → 1 ≤ most → n < 16 ^ most → length (hex n) ≤ most
unfolding hex
length-hex n zero h l = absurd (omega arith)
length-hex n (suc k) h l = rw length-map (length_digits 16 base n k l)

-- only 0 begins with the digit 0
pub hex-first : (n : ℕ) → char_at (hex n) 0 ≡ code_0 → n ≡ 0
unfolding hex
hex-first n e = digits-first 16 base n (first (digits 16 n) (length_digits_pos 16 base n) (digits-below 16 base n) e)
  where
    first : (ds : List ℕ) → 1 ≤ length ds → AllBelow 16 ds → char_at (map digit_code ds) 0 ≡ code_0 → get_or ds 0 0 ≡ 0
    first [] h b c = absurd (omega arith)
    first (d ∷ ds) h b c = code_zero d b.0 c

-- reading them gives the number back
pub read_hex : (n : ℕ) → spell 16 (map digit_of (hex n)) ≡ n
unfolding hex
read_hex n = ap (spell 16) (codes_read (digits 16 n) (digits-below 16 base n)) ∙ spell-digits 16 base n

-- so two numbers that are written alike are equal
pub hex_injective : (m n : ℕ) → hex m ≡ hex n → m ≡ n
hex_injective m n e = sym (read_hex m) ∙ ap (λ (s : List ℕ). spell 16 (map digit_of s)) e ∙ read_hex n

-- ---- numbers in exactly so many digits

-- one digit more
pub hex_in_more : (w v d : ℕ) → d < 16 → hex_in (suc w) (v * 16 + d) ≡ hex_in w v ++ (digit_code d ∷ [])
unfolding hex_in
hex_in_more w v d h = ap (map digit_code) (digits_in_more 16 base w v d h) ∙ map-append digit_code (digits_in 16 w v) (d ∷ [])

-- more digits
hex_in_after : (w v : ℕ) (ds : List ℕ) → AllBelow 16 ds → hex_in (w + length ds) (spell_after 16 v ds) ≡ hex_in w v ++ map digit_code ds
unfolding spell_after
hex_in_after w v [] b = rw (add-zero w) (sym (append-nil (hex_in w v)))
hex_in_after w v (d ∷ ds) b =
    let e : w + suc (length ds) ≡ suc w + length ds = omega arith in
    ap (λ (k : ℕ). hex_in k (spell_after 16 (v * 16 + d) ds)) e
    ∙ hex_in_after (suc w) (v * 16 + d) ds b.1
    ∙ ap (λ (l : List ℕ). l ++ map digit_code ds) (hex_in_more w v d b.0)
    ∙ append_snoc (hex_in w v) (digit_code d) (map digit_code ds)

-- digits are those of the number that they spell, in as many digits
pub hex_in_spell : (ds : List ℕ) → AllBelow 16 ds → hex_in (length ds) (spell 16 ds) ≡ map digit_code ds
unfolding hex_in digits_in
hex_in_spell ds b = ap (λ (k : ℕ). hex_in k (spell 16 ds)) (sym (zero-add (length ds))) ∙ hex_in_after 0 0 ds b

-- every character is a digit
pub hex_in_digits : (w n : ℕ) → every is_digit (hex_in w n) ≡ true
unfolding hex_in
hex_in_digits w n = codes_are_digits (digits_in 16 w n) (digits_in_below 16 base w n)

-- and there are as many as asked for
pub length_hex_in : (w n : ℕ) → length (hex_in w n) ≡ w
unfolding hex_in
length_hex_in w n = length-map (digits_in 16 w n) digit_code ∙ length_digits_in 16 base w n

-- reading them gives the number back, where it has room
pub read_hex_in : (w n : ℕ) → n < 16 ^ w → spell 16 (map digit_of (hex_in w n)) ≡ n
unfolding hex_in
read_hex_in w n h = ap (spell 16) (codes_read (digits_in 16 w n) (digits_in_below 16 base w n)) ∙ spell_digits_in 16 base w n h

-- so two numbers that have room and are written alike are equal
pub hex_in_injective : (w m n : ℕ) → m < 16 ^ w → n < 16 ^ w → hex_in w m ≡ hex_in w n → m ≡ n
hex_in_injective w m n h l e = sym (read_hex_in w m h) ∙ ap (λ (s : List ℕ). spell 16 (map digit_of s)) e ∙ read_hex_in w n l

-- ---- examples

-- one digit, two, and two with a zero in front
pub hex-examples : (hex 0 ≡ ascii "0") × (hex 255 ≡ ascii "ff") × (hex_in 2 5 ≡ ascii "05")
unfolding hex hex_in digits digits_within digits_in
hex-examples = (refl, refl, refl)

-- the greatest number of 128 bits
pub hex_greatest : hex (2 ^ 128 - 1) ≡ ascii "ffffffffffffffffffffffffffffffff"
unfolding spell_after
hex_greatest = hex-spell (replicate 32 15) (omega arith) (below 32) (λ e. absurd (omega arith))
  where
    below : (k : ℕ) → AllBelow 16 (replicate k 15)
    below zero = tt
    below (suc k) = (omega arith, below k)
