-- Laws of characters that stand in a text: part by part, inside of it, and as the part of it that they are.
use Prim.Native.Nat.{ℕ, zero, suc, ◌+◌, ◌≤◌, ◌<◌, max}
use mathlib.Core.Bool.{Bool, true, false}
use mathlib.Core.List.{List, [], ◌∷◌, ◌++◌}
use mathlib.Core.Path.{◌≡◌, refl, sym, ap}
use native.Mathlib.Nat.{add-zero}
use native.Mathlib.Omega.{arith}
use borrow.Author.Tests.{ltb-true, ltb-false}
use lib.Dec.{ltb}
use lib.ListN.{length, take, drop, drop_of_length-le, get_or-eq_default}
use lib.Seq.{drop-cons}
use Rattle.number.proofs.TestLaws.{both, both_intro}
use Rattle.form.specs.Read.{no_char, char_at, all_chars}
use Rattle.form.specs.Form.{Stands}

-- ---- texts that hold characters only

-- two texts that do, one after the other
pub chars_append : (a b : List ℕ) → all_chars a ≡ true → all_chars b ≡ true → all_chars (a ++ b) ≡ true
chars_append [] b h l = l
chars_append (c ∷ a) b h l =
    let r = both (ltb c no_char) (all_chars a) h in
    both_intro (ltb c no_char) (all_chars (a ++ b)) r.0 (chars_append a b r.1 l)

-- the beginning of one that does
pub chars_take : (m : ℕ) (s : List ℕ) → all_chars s ≡ true → all_chars (take m s) ≡ true
chars_take zero s h = refl
chars_take (suc m) [] h = refl
chars_take (suc m) (c ∷ s) h =
    let r = both (ltb c no_char) (all_chars s) h in
    both_intro (ltb c no_char) (all_chars (take m s)) r.0 (chars_take m s r.1)

-- ---- texts that stand in a text

module _ (t : List ℕ) where
  -- two texts stand one after the other: each stands where it begins
  pub stands_split : (p : ℕ) (a b : List ℕ) → Stands t p (a ++ b) → Stands t p a × Stands t (p + length a) b
  stands_split p [] b s = (tt, rw (add-zero p) s)
  stands_split p (c ∷ a) b s =
      let e : p + suc (length a) ≡ suc p + length a = omega arith in
      let r = stands_split (suc p) a b s.1 in
      ((s.0, r.0), rw e r.1)

  -- and each where it begins, they stand one after the other
  pub stands_join : (p : ℕ) (a b : List ℕ) → Stands t p a → Stands t (p + length a) b → Stands t p (a ++ b)
  stands_join p [] b s r = rw (add-zero p) at r
  stands_join p (c ∷ a) b s r =
      let e : p + suc (length a) ≡ suc p + length a = omega arith in
      (s.0, stands_join (suc p) a b s.1 (rw e at r))

  -- the first character of what stands there is the one there
  pub stands_first : (p : ℕ) (s : List ℕ) → 1 ≤ length s → Stands t p s → char_at s 0 ≡ char_at t p
  stands_first p [] h st = absurd (omega arith)
  stands_first p (c ∷ s) h st = sym st.0

  -- a character stands inside of the text
  pub char_inside : (p c : ℕ) → char_at t p ≡ c → c < no_char → p < length t
  char_inside p c e h = by (ltb p (length t)) refl
    where
      by : (b : Bool) → ltb p (length t) ≡ b → p < length t
      by true i = ltb-true p (length t) i
      by false o = absurd (omega (arith, get_or-eq_default t no_char {n = p} (ltb-false p (length t) o)))

  -- so what stands there does not go past its end, unless it is empty
  pub stands_inside : (p : ℕ) (s : List ℕ) → all_chars s ≡ true → Stands t p s → p + length s ≤ max p (length t)
  stands_inside p [] h st = omega arith
  stands_inside p (c ∷ s) h st =
      let b = both (ltb c no_char) (all_chars s) h in
      omega (arith, char_inside p c st.0 (ltb-true c no_char b.0), stands_inside (suc p) s b.1 st.1)

  -- characters that stand there are the next of the text
  pub stands_take : (p : ℕ) (s : List ℕ) → all_chars s ≡ true → Stands t p s → take (length s) (drop p t) ≡ s
  stands_take p [] h st = refl
  stands_take p (c ∷ s) h st =
      let b = both (ltb c no_char) (all_chars s) h in
      rw (drop-cons t p no_char (char_inside p c st.0 (ltb-true c no_char b.0)), stands_take (suc p) s b.1 st.1, st.0)

  -- and the next of the text stand there
  pub take_stands : (p : ℕ) (s : List ℕ) → take (length s) (drop p t) ≡ s → Stands t p s
  take_stands p [] e = tt
  take_stands p (c ∷ s) e = by (ltb p (length t)) refl (take_stands (suc p) s)
    where
      by : (b : Bool) → ltb p (length t) ≡ b → (take (length s) (drop (suc p) t) ≡ s → Stands t (suc p) s) → Stands t p (c ∷ s)
      by true i rest =
          let f : char_at t p ∷ take (length s) (drop (suc p) t) ≡ c ∷ s = rw (drop-cons t p no_char (ltb-true p (length t) i)) at e in
          (cc, rest (cc))
      by false o rest = absurd (omega (arith, ap length (rw (drop_of_length-le t {i = p} (ltb-false p (length t) o)) at e)))
