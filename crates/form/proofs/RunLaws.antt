-- Laws of runs of digits: how one goes on past a first part, how a loop reads it by the table, and the room for its number.
use Prim.Native.Nat.{ℕ, zero, suc, ◌+◌, ◌*◌, ◌-◌, ◌^◌, ◌≤◌, ◌<◌, min}
use mathlib.Core.Bool.{Bool, true, false}
use mathlib.Core.List.{List}
use mathlib.Core.Path.{◌≡◌, refl, sym, ◌∙◌, ap}
use native.Mathlib.Nat.{zero-add, suc-add, pow-suc, pow-le-pow_right}
use native.Mathlib.Numerals.{add-one}
use native.Mathlib.Omega.{arith}
use borrow.Author.Tests.{ltb-true, ltb-false, leb-true, leb-false, eq-eqb, ne_eqb}
use lib.Dec.{ltb, leb}
use lib.ListN.{length, get_or}
use Rattle.std.specs.Prelude.{Some, None}
use Rattle.long.specs.Halves.{whole}
use Rattle.long.specs.declared.Long.{Long}
use Rattle.number.specs.Tests.{pick}
use Rattle.form.specs.Hex.{code_0, is_digit, digit_of}
use Rattle.form.specs.Read.{got, stop, char_at, Run, run, last_place, read_digits, read_number}
use Rattle.form.specs.Table.{counts, digit_in}
use Rattle.form.proofs.ReadLaws.{run_on, run_ends}
use Rattle.form.proofs.StepLaws.{char_in, no_digit_past, too_few, enough}
use Rattle.form.proofs.TableLaws.{no_digit, digit_some, digit_none, some_digit}

-- ---- runs

module _ (t : List ℕ) where
  -- what the digits spell with that at p behind them
  abbrev after : (v p : ℕ) → ℕ
  after v p = v * 16 + digit_of (char_at t p)

  -- there is no digit more: as many were read as there may be, or the text ends
  pub run_last : (n v p : ℕ) → (p < length t → n ≡ 0) → run n t v p ≡ record { value = v; next = p }
  unfolding run
  run_last n v p h = by (ltb p (length t)) refl
    where
      by : (b : Bool) → ltb p (length t) ≡ b → run n t v p ≡ record { value = v; next = p }
      by true i = rw (h (ltb-true p (length t) i))
      by false o = run_ends t n v p (no_digit_past t p (ltb-false p (length t) o))

  -- a run that ends before it may stays the same where it may be longer
  pub run_short : (n k v p : ℕ) → (run n t v p).next < p + n → run (n + k) t v p ≡ run n t v p
  unfolding run
  run_short zero k v p h = absurd (omega arith)
  run_short (suc n) k v p h = by (is_digit (char_at t p)) refl (run_short n k (after v p) (suc p))
    where
      by : (b : Bool) → is_digit (char_at t p) ≡ b
          → ((run n t (after v p) (suc p)).next < suc p + n → run (n + k) t (after v p) (suc p) ≡ run n t (after v p) (suc p))
          → run (suc n + k) t v p ≡ run (suc n) t v p
      by true i rest =
          let e = run_on t n v p i in
          rw suc-add (run_on t (n + k) v p i ∙ rest (omega (arith, ap (λ (r : Run). r.next) e)) ∙ sym e)
      by false i rest = run_ends t (suc n + k) v p i ∙ sym (run_ends t (suc n) v p i)

  -- and one that does not goes on from there
  pub run_full : (n k v p : ℕ) → p + n ≤ (run n t v p).next → run (n + k) t v p ≡ run k t (run n t v p).value (run n t v p).next
  unfolding run
  run_full zero k v p h = rw zero-add
  run_full (suc n) k v p h = by (is_digit (char_at t p)) refl (run_full n k (after v p) (suc p))
    where
      by : (b : Bool) → is_digit (char_at t p) ≡ b
          → (suc p + n ≤ (run n t (after v p) (suc p)).next → run (n + k) t (after v p) (suc p) ≡ run k t (run n t (after v p) (suc p)).value (run n t (after v p) (suc p)).next)
          → run (suc n + k) t v p ≡ run k t (run (suc n) t v p).value (run (suc n) t v p).next
      by true i rest =
          let e = run_on t n v p i in
          rw (suc-add, e) (run_on t (n + k) v p i ∙ rest (omega (arith, ap (λ (r : Run). r.next) e)))
      by false i rest = absurd (omega (arith, ap (λ (r : Run). r.next) (run_ends t (suc n) v p i)))

-- ---- a run as a loop reads it

-- what was read up to a place spells a value, and the run goes on there as the whole of it goes from p on
pub record Running (t : List ℕ) (most v p value at : ℕ) : Type 0 where
  pub from : p ≤ at
  pub within : at ≤ last_place t p most
  pub rest : run (p + most - at) t value at ≡ run most t v p

module _ (t : List ℕ) (most v p : ℕ) where
  -- at first nothing was read
  pub running_first : Running t most v p v p
  running_first =
      let all : p + most - p ≡ most = omega arith in
      record { from = omega arith; within = omega arith; rest = rw all }

  module _ {value at : ℕ} (r : Running t most v p value at) where
    -- a digit is read
    pub running_next : {d : ℕ} → at < last_place t p most → digit_in (get_or t at 0) ≡ Some d → Running t most v p (value * 16 + d) (at + 1)
    running_next {d} h e =
        let digit = digit_some (char_at t at) {d = d} (rw (char_in t at (omega (arith, r.from))) e) in
        let more : p + most - at ≡ suc (p + most - (at + 1)) = omega (arith, r.from) in
        record {
          from = omega (arith, r.from);
          within = omega arith;
          rest = rw (← digit.1, add-one at) (sym (run_on t (p + most - suc at) value at digit.0) ∙ rw (more, add-one at) at r.rest);
        }

    ends_there : is_digit (char_at t at) ≡ false → record { value = value; next = at } ≡ run most t v p
    ends_there none = sym (run_ends t (p + most - at) value at none) ∙ r.rest

    -- there is none: the run ends
    pub running_ends : 15 < counts (char_at t at) → record { value = value; next = at } ≡ run most t v p
    running_ends d = ends_there (no_digit (char_at t at) d)

    -- the same of a character before the last place, by what it counts
    pub running_none : at < last_place t p most → digit_in (get_or t at 0) ≡ None → record { value = value; next = at } ≡ run most t v p
    running_none h e = ends_there (digit_none (char_at t at) (rw (char_in t at (omega (arith, r.from))) e))

    -- and it ends at the last place
    pub running_last : last_place t p most ≤ at → record { value = value; next = at } ≡ run most t v p
    running_last h = sym (run_last t (p + most - at) value at (λ i. omega (arith, r.from))) ∙ r.rest

-- ---- numbers

module _ (t : List ℕ) (p : ℕ) where
  -- without a digit there is no number
  digits-none : (least most : ℕ) → is_digit (char_at t p) ≡ false → stop p ≡ read_digits (suc least) most t p
  digits-none least most e = too_few (suc least) most t p (record { value = 0; next = p }) (sym (run_ends t most 0 p e)) (omega arith)

  -- a zero in front stands alone
  pub number-zero : (most : ℕ) → char_at t p ≡ code_0 → got 0 (p + 1) ≡ read_number most t p
  unfolding read_number run is_digit digit_of
  number-zero most e =
      let one : run 1 t 0 p ≡ record { value = 0; next = suc p } = rw e in
      rw (eq-eqb (char_at t p) code_0 e, add-one) (enough 1 1 t p (record { value = 0; next = suc p }) (sym one) (omega arith))

  -- before any other digit there is none
  pub number_other : (most : ℕ) → (char_at t p ≡ code_0 → ⊥) → read_digits 1 most t p ≡ read_number most t p
  unfolding read_number
  number_other most e = rw (ne_eqb (char_at t p) code_0 e)

  -- two digits: there is none, one or both
  pub pair_none : is_digit (char_at t p) ≡ false → stop p ≡ read_digits 2 2 t p
  pair_none e = digits-none 1 2 e

  pub pair_one : {a : ℕ} → digit_in (char_at t p) ≡ Some a → is_digit (char_at t (p + 1)) ≡ false → stop (p + 1) ≡ read_digits 2 2 t p
  pair_one h e =
      let first = run_on t 1 0 p (digit_some (char_at t p) h).0 in
      let last = run_ends t 1 (0 * 16 + digit_of (char_at t p)) (suc p) (rw add-one at e) in
      rw add-one (too_few 2 2 t p (record { value = 0 * 16 + digit_of (char_at t p); next = suc p }) (sym (first ∙ last)) (omega arith))

  pub pair_told : {a b : ℕ} → digit_in (char_at t p) ≡ Some a → digit_in (char_at t (p + 1)) ≡ Some b → got (a * 16 + b) (p + 1 + 1) ≡ read_digits 2 2 t p
  unfolding run
  pair_told h l =
      let a = digit_some (char_at t p) h in
      let b = digit_some (char_at t (suc p)) (rw add-one at l) in
      let first = run_on t 1 0 p a.0 in
      let last = run_on t 0 (0 * 16 + digit_of (char_at t p)) (suc p) b.0 in
      let value : 0 * 16 + digit_of (char_at t p) ≡ digit_of (char_at t p) = omega arith in
      rw (add-one, add-one, ← a.1, ← b.1)
      (enough 2 2 t p (record { value = digit_of (char_at t p) * 16 + digit_of (char_at t (suc p)); next = suc (suc p) }) (sym (first ∙ last ∙ ap (λ (x : ℕ). record { value = x * 16 + digit_of (char_at t (suc p)); next = suc (suc p) }) value)) (omega arith))

  -- and by what the table counts for both
  pub pair_both : counts (char_at t p) ≤ 15 → counts (char_at t (p + 1)) ≤ 15
      → got (counts (char_at t p) * 16 + counts (char_at t (p + 1))) (p + 1 + 1) ≡ read_digits 2 2 t p
  pair_both h l = pair_told (sym (some_digit (char_at t p) h)) (sym (some_digit (char_at t (p + 1)) l))

-- ---- a first part of 16 digits, and what comes behind it

module _ (t : List ℕ) where
  -- a run is no longer than it may be
  run_within : (n v p : ℕ) → (run n t v p).next ≤ p + n
  unfolding run
  run_within zero v p = omega arith
  run_within (suc n) v p = by (is_digit (char_at t p)) (run_within n (after t v p) (suc p))
    where
      by : (b : Bool) → (run n t (after t v p) (suc p)).next ≤ suc p + n
          → (pick b (run n t (after t v p) (suc p)) (record { value = v; next = p })).next ≤ p + suc n
      by true h = omega arith
      by false h = omega arith

  -- where fewer than 16 were read, they are all of it
  pub run_first : (most p : ℕ) {r : Run} → r ≡ run (min most 16) t 0 p → r.next < p + 16 → r ≡ run most t 0 p
  run_first most p {r} e h = by (leb 16 most) refl
    where
      by : (b : Bool) → leb 16 most ≡ b → r ≡ run most t 0 p
      by true i =
          let n : min most 16 ≡ 16 = omega (arith, leb-true 16 most i) in
          let all : 16 + (most - 16) ≡ most = omega (arith, leb-true 16 most i) in
          let whole = rw n at e in
          whole ∙ sym (rw all at (run_short t 16 (most - 16) 0 p (omega (arith, ap (λ (x : Run). x.next) whole))))
      by false o =
          let n : min most 16 ≡ most = omega (arith, leb-false 16 most o) in
          rw n at e

  -- where 16 were, it goes on behind them
  pub run_rest : (most p : ℕ) {r : Run} → r ≡ run (min most 16) t 0 p → p + 16 ≤ r.next → (16 ≤ most) × (run (most - 16) t r.value r.next ≡ run most t 0 p)
  run_rest most p {r} e h =
      let next = ap (λ (x : Run). x.next) e in
      let many : 16 ≤ most = omega (arith, run_within (min most 16) 0 p) in
      let n : min most 16 ≡ 16 = omega arith in
      let all : 16 + (most - 16) ≡ most = omega arith in
      let whole = rw n at e in
      let full = run_full t 16 (most - 16) 0 p (omega (arith, ap (λ (x : Run). x.next) whole)) in
      (many, sym (rw (all, ← whole) at full))

-- ---- room

-- a number of so many digits is one of at most more
pub digits_fit : (v j k : ℕ) → v < 16 ^ j → j ≤ k → v < 16 ^ k
digits_fit v j k h l =
    let m : 16 ^ j ≤ 16 ^ k = pow-le-pow_right {n = 16} (omega arith) {i = j} {j = k} l in
    omega arith

-- a number of at most 31 digits has room for one more
pub digit_room : (x : Long) (k : ℕ) → whole x < 16 ^ k → k < 32 → x.hi < 2 ^ 60
unfolding whole
digit_room x k h l =
    let m : 16 ^ k ≤ 16 ^ 31 = pow-le-pow_right {n = 16} (omega arith) {i = k} {j = 31} (omega arith) in
    omega arith

-- and one more digit makes it one of one digit more
pub digit_less : (v d k : ℕ) → v < 16 ^ k → d < 16 → v * 16 + d < 16 ^ suc k
digit_less v d k h l = rw pow-suc (omega arith)
