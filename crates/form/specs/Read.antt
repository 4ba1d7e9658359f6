-- Readers over a position of a text: each answers a value and the next position, or the position of the first character that cannot go on.
use Rattle.std.specs.Prelude.{ℕ, zero, suc, ◌+◌, ◌*◌, min, max, Bool, List, [], ◌∷◌, eqb, ltb, length, get_or}
use Rattle.number.specs.Tables.{every}
use Rattle.number.specs.Tests.{pick}
use Rattle.form.specs.Hex.{code_0, is_digit, digit_of}

-- what a reader answers
pub data Read (A : Type 0) : Type 0 where
  got : A → ℕ → Read A
  stop : ℕ → Read A

-- one reader after the other
abbrev pub and_then : {A B : Type 0} → Read A → (A → ℕ → Read B) → Read B
and_then (got a p) f = f a p
and_then (stop p) f = stop p

-- past the end of a text there is no character; this number, which is no byte, stands for it
abbrev pub no_char : ℕ
no_char = 256

-- the character at place p
abbrev pub char_at : List ℕ → ℕ → ℕ
char_at t p = get_or t p no_char

-- a text holds characters only, and not the number that stands for none
abbrev pub all_chars : List ℕ → Bool
all_chars s = every (λ c. ltb c no_char) s

-- given characters, one by one: the place after them, or that of the first that differs
unfoldable pub read_text : (name t : List ℕ) → (p : ℕ) → Read Unit
read_text [] t p = got tt p
read_text (c ∷ cs) t p = pick (eqb (char_at t p) c) (read_text cs t (suc p)) (stop p)

-- a run of digits: the number that they spell and the place after them
pub record Run : Type 0 where
  pub value : ℕ
  pub next : ℕ

-- the digits from place p on, at most n of them, after digits that spell v
unfoldable pub run : (n : ℕ) → (t : List ℕ) → (v p : ℕ) → Run
run zero t v p = record { value = v; next = p }
run (suc n) t v p = pick (is_digit (char_at t p)) (run n t (v * 16 + digit_of (char_at t p)) (suc p)) (record { value = v; next = p })

-- where a run of at most so many digits from place p on ends at the latest
abbrev pub last_place : (t : List ℕ) → (p most : ℕ) → ℕ
last_place t p most = max p (min (length t) (p + most))

-- a number in at least so many digits and at most so many: where there are too few, it stops at the character that is none
unfoldable pub read_digits : (least most : ℕ) → (t : List ℕ) → (p : ℕ) → Read ℕ
read_digits least most t p =
    let r : Run = run most t 0 p in
    pick (ltb r.next (p + least)) (stop r.next) (got r.value r.next)

-- a number of one to so many digits, without leading zero, zero as `0`: after a zero in front no digit belongs to it
unfoldable pub read_number : (most : ℕ) → (t : List ℕ) → (p : ℕ) → Read ℕ
read_number most t p = read_digits 1 (pick (eqb (char_at t p) code_0) 1 most) t p
