-- Laws of the table of digits: an entry tells whether a character is a digit, and what it counts.
use Prim.Native.Nat.{ℕ, zero, suc, ◌+◌, ◌≤◌, ◌<◌}
use mathlib.Core.Bool.{Bool, true, false}
use mathlib.Core.List.{List}
use mathlib.Core.Path.{◌≡◌, refl, ◌∙◌}
use native.Mathlib.Nat.{add-zero, zero-add}
use native.Mathlib.Omega.{arith}
use borrow.Author.Tests.{ltb-true, ltb-false}
use lib.Dec.{ltb}
use lib.ListN.{length, get_or}
use Rattle.std.specs.Prelude.{Some, None}
use Rattle.number.proofs.TestLaws.{clash}
use Rattle.number.specs.Tests.{pick}
use Rattle.form.specs.Hex.{is_digit, digit_of}
use Rattle.form.specs.Table.{counts, entries_from, digit_table, digit_in}
use Rattle.form.specs.Read.{char_at}
use Rattle.form.proofs.StepLaws.{no_digit_past}
use Rattle.form.proofs.HexLaws.{digit_of_lt}

-- the entries from that of c on
entry-from : (n c k : ℕ) → k < n → get_or (entries_from n c) k 0 ≡ counts (c + k)
entry-from zero c k h = absurd (omega arith)
entry-from (suc n) c zero h = rw add-zero
entry-from (suc n) c (suc k) h =
    let e : c + suc k ≡ suc c + k = omega arith in
    rw e (entry-from n (suc c) k (omega arith))

-- the entry of a byte
entry : (c : ℕ) → c < 256 → get_or digit_table c 0 ≡ counts c
unfolding digit_table
entry c h = rw zero-add at (entry-from 256 0 c h)

-- an entry past 15 is that of no digit
pub no_digit : (c : ℕ) → 15 < counts c → is_digit c ≡ false
no_digit c h = by (is_digit c) refl h
  where
    by : (b : Bool) → is_digit c ≡ b → 15 < pick b (digit_of c) 16 → is_digit c ≡ false
    by true e h = absurd (omega (arith, digit_of_lt c e))
    by false e h = e

-- any other is what a digit counts
pub a_digit : (c : ℕ) → counts c ≤ 15 → (is_digit c ≡ true) × (counts c ≡ digit_of c)
a_digit c h = by (is_digit c) refl h
  where
    by : (b : Bool) → is_digit c ≡ b → pick b (digit_of c) 16 ≤ 15 → (is_digit c ≡ true) × (pick b (digit_of c) 16 ≡ digit_of c)
    by true e h = (e, refl)
    by false e h = absurd (omega arith)

-- a table that is the table of digits says of each byte what it counts
pub found : {d : List ℕ} → d ≡ digit_table → (c : ℕ) → c < 256 → get_or d c 0 ≡ counts c
found table c h = rw table (entry c h)

-- so an entry below 16 is a digit, and another is none
pub some_digit : (c : ℕ) → counts c ≤ 15 → Some (counts c) ≡ digit_in c
some_digit c h = rw (a_digit c h).0

pub none_digit : (c : ℕ) → 15 < counts c → None ≡ digit_in c
none_digit c h = rw (no_digit c h)

-- a character that counts so much is a digit
pub digit_some : (c : ℕ) {d : ℕ} → digit_in c ≡ Some d → (is_digit c ≡ true) × (digit_of c ≡ d) × (d < 16)
digit_some c {d} = by (is_digit c) refl
  where
    by : (b : Bool) → is_digit c ≡ b → pick b (Some (digit_of c)) None ≡ Some d → (is_digit c ≡ true) × (digit_of c ≡ d) × (d < 16)
    by true e h = let same : digit_of c ≡ d = cc in (e, same, omega (arith, digit_of_lt c e))
    by false e h = clash cc

-- and one that counts nothing is none
pub digit_none : (c : ℕ) → digit_in c ≡ None → is_digit c ≡ false
digit_none c = by (is_digit c) refl
  where
    by : (b : Bool) → is_digit c ≡ b → pick b (Some (digit_of c)) None ≡ None → is_digit c ≡ false
    by true e h = clash cc
    by false e h = e

-- past the end of a text there is none
pub digit_past : (t : List ℕ) (p : ℕ) → length t ≤ p → None ≡ digit_in (char_at t p)
digit_past t p h = rw (no_digit_past t p h)

-- so a digit stands inside of it
pub digit_inside : (t : List ℕ) (p : ℕ) {d : ℕ} → digit_in (char_at t p) ≡ Some d → p < length t
digit_inside t p {d} e = by (ltb p (length t)) refl
  where
    by : (b : Bool) → ltb p (length t) ≡ b → p < length t
    by true i = ltb-true p (length t) i
    by false o = let none = digit_past t p (ltb-false p (length t) o) ∙ e in clash cc
