-- Laws of bytes put into a buffer: two runs join to one, and a line put at the start is what the buffer begins with; so what is put where a page ends is what the page
-- shows behind the rest.
use Prim.Native.Nat.{ℕ, ◌+◌, ◌≤◌}
use mathlib.Core.List.{List, ◌++◌, append_assoc}
use mathlib.Core.Path.{◌≡◌, sym, ◌∙◌, ap}
use native.Mathlib.Nat.{zero-add}
use native.Mathlib.Omega.{arith}
use lib.ListN.{length, take, drop, length-append, take-append-drop}
use lib.Seq.{sets, sets-eq, length-sets, take-append_seam, drop-append_seam}
use Rattle.std.proofs.Common.{length-take-le}
use Rattle.number.proofs.StoreLaws.{sets-append}
use Rattle.text.specs.Line.{Put, Front}

-- bytes put, and more put where they end, are all put
pub put_then : {l m n a b : List ℕ} {i j k : ℕ} → Put l i a m j → Put m j b n k → Put l i (a ++ b) n k
put_then {l} {m} {n} {a} {b} {i} p q = record {
  stored = rw (p.stored, p.after) at q.stored ∙ sets-append l i a b;
  after = omega (arith, p.after, q.after, length-append a b);
}

-- a line that fits, stored from the start of a buffer on, is what the buffer begins with
pub taken : (l a : List ℕ) → length a ≤ length l → take (length a) (sets l 0 a) ≡ a
taken l a h =
    let fits : 0 + length a ≤ length l = omega arith in
    rw (sets-eq a l 0) (take-append_seam a (drop (0 + length a) l))

-- and what stands behind it stays
left : (l a : List ℕ) → length a ≤ length l → drop (length a) (sets l 0 a) ≡ drop (length a) l
left l a h =
    let fits : 0 + length a ≤ length l = omega arith in
    rw (sets-eq a l 0, zero-add) (drop-append_seam a (drop (length a) l))

-- a line put at the start of a buffer is what the buffer begins with
pub put_front : {l m a : List ℕ} {r : ℕ} → Put l 0 a m r → r ≤ length m → Front l a m r
put_front {l} {m} {a} {r} p h =
    let e : r ≡ length a = omega (arith, p.after) in
    let fits : length a ≤ length l = omega (arith, length-sets l 0 a, ap length p.stored) in
    record {
      first = rw (e, p.stored) (taken l a fits);
      count = e;
      within = h;
      rest = rw (e, p.stored) (left l a fits);
    }

-- what a buffer holds and the answer, where it begins with given bytes, are determined
pub front_one : {l m n a : List ℕ} {r s : ℕ} → Front l a m r → Front l a n s → (r ≡ s) × (m ≡ n)
front_one {l} {m} {n} {a} {r} {s} p q =
    let e : r ≡ s = p.count ∙ sym q.count in
    let here : m ≡ a ++ drop r l = sym (take-append-drop r m) ∙ rw (p.first, p.rest) in
    let there : n ≡ a ++ drop s l = sym (take-append-drop s n) ∙ rw (q.first, q.rest) in
    (e, here ∙ ap (λ (k : ℕ). a ++ drop k l) e ∙ sym there)

-- ---- pages

-- texts put on a page one after the other are one text
pub put_more : {m n : List ℕ} (l a b : List ℕ) → m ≡ l ++ a → n ≡ m ++ b → n ≡ l ++ (a ++ b)
put_more l a b p q = q ∙ ap (λ (k : List ℕ). k ++ b) p ∙ append_assoc l a b

-- bytes put into the buffer of a page where it ends, are what the page shows behind the bytes that it showed
pub put_shows : {l m a : List ℕ} {i j : ℕ} → Put l i a m j → i ≤ length l → j ≤ length m → take j m ≡ take i l ++ a
put_shows {l} {m} {a} {i} {j} p h k = (put_front (put_then (stands l i h) p) k).first
  where
    stands : (l : List ℕ) (i : ℕ) → i ≤ length l → Put l 0 (take i l) l i
    stands l i h =
        let e : length (take i l) ≡ i = length-take-le i l h in
        let fits : 0 + length (take i l) ≤ length l = omega (arith, e, h) in
        record { stored = sym (rw (sets-eq (take i l) l 0 fits, zero-add, e) (take-append-drop i l)); after = omega (arith, e) }
