-- The list of f 0 .. f (n - 1): its length, its entries and its parts; and every list is one.
use Prim.Native.Nat.{ℕ, zero, suc, ◌+◌, ◌≤◌, ◌<◌, zero-le, suc-le-suc}
use mathlib.Core.Bool.{Bool}
use mathlib.Core.List.{List, [], ◌∷◌, ◌++◌}
use mathlib.Core.Path.{◌≡◌, refl, sym, ◌∙◌, ap}
use native.Mathlib.Nat.{add-zero, add-suc, suc-add, le_of_suc-le-suc, not-suc-le-zero}
use native.Mathlib.Omega.{arith}
use lib.Dec.{T}
use lib.ListN.{length, drop, get_or}
use lib.Seq.{drop-cons}
use Rattle.number.specs.Tables.{every}
use Rattle.number.proofs.TableLaws.{every_at}
use Rattle.model.specs.Columns.{table}

module _ {A : Type 0} where
  -- it has n entries
  pub length-table : (n : ℕ) (f : ℕ → A) → length (table n f) ≡ n
  unfolding table
  length-table zero f = refl
  length-table (suc n) f = ap suc (length-table n (λ i. f (suc i)))

  -- entry i is f i
  pub get_or-table : (n : ℕ) (f : ℕ → A) (i : ℕ) (d : A) → i < n → get_or (table n f) i d ≡ f i
  unfolding table
  get_or-table zero f i d h = absurd (not-suc-le-zero h)
  get_or-table (suc n) f zero d h = refl
  get_or-table (suc n) f (suc i) d h = get_or-table n (λ j. f (suc j)) i d (le_of_suc-le-suc h)

  -- it depends on f below n alone
  pub table_path : (n : ℕ) (f g : ℕ → A) → ((i : ℕ) → i < n → f i ≡ g i) → table n f ≡ table n g
  unfolding table
  table_path zero f g h = refl
  table_path (suc n) f g h =
      rw (h 0 (suc-le-suc zero-le), table_path n (λ i. f (suc i)) (λ i. g (suc i)) (λ i k. h (suc i) (suc-le-suc k)))

  -- one entry more stands at the end
  pub table_snoc : (n : ℕ) (f : ℕ → A) → table (suc n) f ≡ table n f ++ (f n ∷ [])
  unfolding table
  table_snoc zero f = refl
  table_snoc (suc n) f = ap (◌∷◌ (f 0)) (table_snoc n (λ i. f (suc i)))

  -- a list is the table of its own entries
  pub table_of_list : (xs : List A) (d : A) → table (length xs) (λ i. get_or xs i d) ≡ xs
  unfolding table
  table_of_list [] d = refl
  table_of_list (x ∷ xs) d = ap (λ ys. x ∷ ys) (table_of_list xs d)

  -- the entries from p on: the first of them and the rest
  pub drop-first : (n : ℕ) (f : ℕ → A) (p : ℕ) → p < n → drop p (table n f) ≡ f p ∷ drop (suc p) (table n f)
  drop-first n f p h =
      drop-cons (table n f) p (f p) (rw (length-table n f) h) ∙ ap (λ (x : A). x ∷ drop (suc p) (table n f)) (get_or-table n f p (f p) h)

  drop_next : (n : ℕ) (f : ℕ → A) (k p : ℕ) → p < n → drop (suc p) (table n f) ≡ table k (λ i. f (suc p + i)) ++ drop (suc p + k) (table n f)
      → drop p (table n f) ≡ table (suc k) (λ i. f (p + i)) ++ drop (p + suc k) (table n f)
  unfolding table
  drop_next n f k p h rest =
      let same : table k (λ i. f (p + suc i)) ≡ table k (λ i. f (suc p + i)) =
      table_path k (λ i. f (p + suc i)) (λ i. f (suc p + i)) (λ i l. ap f (add-suc p i ∙ sym (suc-add p i))) in
      let end : p + suc k ≡ suc p + k = add-suc p k ∙ sym (suc-add p k) in
      rw (drop-first n f p h, rest, add-zero p, end, same)

  -- k of them and the rest
  pub drop-table : (n : ℕ) (f : ℕ → A) (k p : ℕ) → p + k ≤ n → drop p (table n f) ≡ table k (λ i. f (p + i)) ++ drop (p + k) (table n f)
  drop-table n f zero p h = unfold table in rw add-zero
  drop-table n f (suc k) p h = drop_next n f k p (omega arith) (drop-table n f k (suc p) (omega arith))

-- the numbers below n
abbrev pub below : ℕ → List ℕ
below n = table n (λ i. i)

-- a test that passes at each of them
pub below_at : (f : ℕ → Bool) (n : ℕ) → T (every f (below n)) → (i : ℕ) → i < n → T (f i)
below_at f n t i h =
    let l : i < length (below n) = rw (length-table n (λ j. j)) h in
    rw (get_or-table n (λ j. j) i 0 h) at (every_at f (below n) t i 0 l)
