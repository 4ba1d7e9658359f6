-- The code's table of opcodes: what is proved of it by tests that the checker computes.
use Prim.Native.Nat.{ℕ, zero, suc, ◌<◌}
use mathlib.Core.Bool.{Bool, true, false, false≢true, not, ◌&&◌}
use mathlib.Core.List.{List, [], ◌∷◌, map}
use mathlib.Core.Logic.{◌↔◌, ◌≢◌, ⊎_elim}
use mathlib.Core.Path.{◌≡◌, refl, sym, ◌∙◌, ap}
use native.Mathlib.Nat.{le_of_suc-le-suc, not-suc-le-zero}
use borrow.Author.Tests.{eq-eqb, ne_eqb, eqb-true, eqb-false}
use lib.Dec.{T, eqb, ltb, eqb→eq, ltb→lt}
use lib.ListN.{length, get_or}
use Rattle.number.specs.Tables.{every}
use Rattle.number.specs.Tests.{pick}
use Rattle.number.proofs.TableLaws.{every_at, and_left, and_right}
use Rattle.number.proofs.TestLaws.{either, is_true}
use Rattle.std.specs.Prelude.{Option, None, Some, option_map}
use Rattle.std.specs.List.{find}
use Rattle.opcode.specs.Opcodes.{unlisted, Listed, listed, among, category_by, category_of, category_number, number_of}
use Rattle.opcode.specs.Opcodes.{touches_nothing, touches_word, touches_byte, touches_range, touches_two}
use Rattle.opcode.specs.declared.Category.{Category}
use Rattle.opcode.specs.declared.Category.TheVariants.{Nothing, Word, Byte, Range, TwoRanges}
use Rattle.opcode.specs.declared.Entry.{Entry}

-- ---- tests at each listed opcode

-- a number has a category
abbrev pub is_listed : ℕ → Bool
is_listed op = not (eqb (category_of op) unlisted)

is_listed_lem : (op : ℕ) → T (is_listed op) → category_of op ≢ unlisted
is_listed_lem op t e = rw (eq-eqb (category_of op) unlisted e) at t

-- a test of a category and an opcode passes at each opcode of these rows
abbrev pub each_listed : (ℕ → ℕ → Bool) → List Listed → Bool
each_listed f rs = every (λ r. every (f r.category) r.opcodes) rs

every-among : (f : ℕ → Bool) (op : ℕ) (xs : List ℕ) → T (every f xs) → among op xs ≡ true → T (f op)
every-among f op [] t e = absurd (false≢true e)
every-among f op (x ∷ xs) t e =
    ⊎_elim (λ q. rw (eqb-true op x q) (and_left (f x) (every f xs) t)) (every-among f op xs (and_right (f x) (every f xs) t))
    (either (eqb op x) (among op xs) e)

listed_at : (f : ℕ → ℕ → Bool) (op : ℕ) (rs : List Listed) → T (each_listed f rs) → category_by rs op ≢ unlisted → T (f (category_by rs op) op)
listed_at f op [] t n = absurd (n refl)
listed_at f op (r ∷ rs) t n =
    go (among op r.opcodes) refl n (listed_at f op rs (and_right (every (f r.category) r.opcodes) (each_listed f rs) t))
  where
    go : (b : Bool) → among op r.opcodes ≡ b → pick b r.category (category_by rs op) ≢ unlisted
        → (category_by rs op ≢ unlisted → T (f (category_by rs op) op)) → T (f (pick b r.category (category_by rs op)) op)
    go true e n rest = every-among (f r.category) op r.opcodes (and_left (every (f r.category) r.opcodes) (each_listed f rs) t) e
    go false e n rest = rest n

-- where each of these opcodes is listed, and each listed opcode is among them, a number is among them exactly if it has a category
pub exactly_listed : (ops : List ℕ) → T (every is_listed ops) → T (each_listed (λ c op. among op ops) listed) → (op : ℕ)
    → (among op ops ≡ true) ↔ (category_of op ≢ unlisted)
unfolding category_of
exactly_listed ops t u op = (
  λ e. is_listed_lem op (every-among is_listed op ops t e),
  λ n. is_true (among op ops) (listed_at (λ c x. among x ops) op listed u n),
)

-- ---- the table

-- what the code finds in entries: the category of the first with the opcode
abbrev pub first_with : ℕ → List Entry → Option Category
first_with op es = option_map (λ (e : Entry). e.category) (find (λ (e : Entry). eqb e.op op) es)

-- its number
abbrev pub found : ℕ → List Entry → ℕ
found op es = number_of (first_with op es)

-- the opcodes of entries
abbrev pub opcodes : List Entry → List ℕ
opcodes es = map (λ (e : Entry). e.op) es

-- each number is below all after it
abbrev pub rises : List ℕ → Bool
rises [] = true
rises (x ∷ xs) = every (ltb x) xs && rises xs

-- the search finds a category for an opcode
abbrev pub finds : List Entry → (category op : ℕ) → Bool
finds es c op = eqb (found op es) c

-- what is proved of the code's table: for each number it gives the category; it has the listed opcodes and no other, 22 of them, in rising order,
-- so that none stands twice
pub record Right (es : List Entry) : Type 0 where
  pub rule : (op : ℕ) → number_of (first_with op es) ≡ category_of op
  pub exact : (op : ℕ) → (among op (opcodes es) ≡ true) ↔ (category_of op ≢ unlisted)
  pub entries : length es ≡ 22
  pub rising : (i j : ℕ) → i < j → j < length (opcodes es) → get_or (opcodes es) i 0 < get_or (opcodes es) j 0

rising_at : (xs : List ℕ) → T (rises xs) → (i j : ℕ) → i < j → j < length xs → get_or xs i 0 < get_or xs j 0
rising_at [] t i j l h = absurd (not-suc-le-zero h)
rising_at (x ∷ xs) t i zero l h = absurd (not-suc-le-zero l)
rising_at (x ∷ xs) t zero (suc j) l h =
    ltb→lt x (get_or xs j 0) (every_at (ltb x) xs (and_left (every (ltb x) xs) (rises xs) t) j 0 (le_of_suc-le-suc h))
rising_at (x ∷ xs) t (suc i) (suc j) l h =
    rising_at xs (and_right (every (ltb x) xs) (rises xs) t) i j (le_of_suc-le-suc l) (le_of_suc-le-suc h)

-- the first entry with an opcode, or those after it
found_step : (op : ℕ) (e : Entry) (es : List Entry) → found op (e ∷ es) ≡ pick (eqb e.op op) (category_number e.category) (found op es)
found_step op e es = by (eqb e.op op) refl
  where
    by : (b : Bool) → eqb e.op op ≡ b → found op (e ∷ es) ≡ pick b (category_number e.category) (found op es)
    by true q = rw q
    by false q = rw q

-- where each entry is listed, nothing is found for an opcode that is not
none_found : (op : ℕ) (es : List Entry) → T (every is_listed (opcodes es)) → category_of op ≡ unlisted → found op es ≡ unlisted
none_found op [] t u = refl
none_found op (e ∷ es) t u =
    let other : e.op ≢ op = λ q. is_listed_lem e.op (and_left (is_listed e.op) (every is_listed (opcodes es)) t) (ap category_of q ∙ u) in
    found_step op e es ∙ rw (ne_eqb e.op op other) (none_found op es (and_right (is_listed e.op) (every is_listed (opcodes es)) t) u)

found_rule : (es : List Entry) → T (each_listed (finds es) listed) → T (every is_listed (opcodes es)) → (op : ℕ) → found op es ≡ category_of op
unfolding category_of
found_rule es f t op = by (eqb (category_of op) unlisted) refl
  where
    by : (b : Bool) → eqb (category_of op) unlisted ≡ b → found op es ≡ category_of op
    by true e =
        let u = eqb-true (category_of op) unlisted e in
        none_found op es t u ∙ sym u
    by false e = eqb→eq (found op es) (category_of op) (listed_at (finds es) op listed f (eqb-false (category_of op) unlisted e))

-- the checker computes that a table is right
pub right : (es : List Entry) → T (each_listed (finds es) listed) → T (every is_listed (opcodes es))
    → T (each_listed (λ c op. among op (opcodes es)) listed) → length es ≡ 22 → T (rises (opcodes es)) → Right es
right es f t u n r =
    record {
      rule = found_rule es f t;
      exact = exactly_listed (opcodes es) t u;
      entries = n;
      rising = rising_at (opcodes es) r;
    }

-- ---- the categories in the code

-- the category with a number; none for 0
abbrev pub told_category : ℕ → Option Category
told_category c =
    pick (eqb c touches_nothing) (Some Nothing)
    (pick (eqb c touches_word) (Some Word)
    (pick (eqb c touches_byte) (Some Byte)
    (pick (eqb c touches_range) (Some Range)
    (pick (eqb c touches_two) (Some TwoRanges) None))))

-- a category is the one with its number
pub told_number : (k : Option Category) → told_category (number_of k) ≡ k
told_number None = refl
told_number (Some Nothing) = refl
told_number (Some Word) = refl
told_number (Some Byte) = refl
told_number (Some Range) = refl
told_number (Some TwoRanges) = refl
