-- A list that is read line by line, with its cycles written or only counted: both readings as one. The code counts in one function and writes in another, and each
-- keeps this from line to line.
use Prim.Native.Nat.{ℕ, suc, ◌+◌, ◌*◌, ◌-◌, ◌≤◌}
use mathlib.Core.Bool.{Bool, true, false, true≢false}
use mathlib.Core.List.{List, [], ◌∷◌, map}
use mathlib.Core.Path.{◌≡◌, refl, ◌∙◌, ap}
use native.Mathlib.Omega.{arith}
use lib.ListN.{length, length-append, length-map}
use Rattle.std.specs.Prelude.{None, Ok, Err}
use Rattle.model.specs.Constraints.{out_last}
use Rattle.model.specs.Cycles.{Claim}
use Rattle.model.specs.State.{Context, State, fresh}
use Rattle.model.specs.Tests.{pick}
use Rattle.model.specs.Trace.{after_claim, cycles_of}
use Rattle.model.proofs.JoinLaws.{last_le, length_cycle}
use Rattle.recent.specs.Notes.{Recent, nothing_noted}
use Rattle.refusal.specs.declared.Refusal.{Refusal}
use Rattle.claim.specs.Claims.{claim_of}
use Rattle.list.specs.List.{Next, next_line}
use Rattle.lines.specs.Lines.{rows_of_claims, list_claims, Writable, cycles_written}
use Rattle.lines.specs.Reading.{told_claimed, place_after, lines_after}
use Rattle.lines.proofs.CountLaws.{Counted, More, counted_start}
use Rattle.lines.proofs.WriteLaws.{Filling, length-kept as filling-kept, filling_first, filling_end, filling_right}

-- k lines were read, up to the place `at`, and the rows of their cycles counted; the cycles are written where they are to be, and else nothing is
pub record Passing (writes : Bool) (t l buf : List ℕ) (known : Recent) (first at row k : ℕ) : Type 0 where
  pub counted : Counted t at k (row - first)
  pub ahead : first ≤ row
  pub filling : writes ≡ true → Filling t l buf known first at row k
  pub kept : writes ≡ false → buf ≡ l

-- before the first line
pub passing_first : (writes : Bool) (t l : List ℕ) (first : ℕ) → Passing writes t l l nothing_noted first 0 first 0
passing_first writes t l first =
    let none : first - first ≡ 0 = omega arith in
    record { counted = rw none (counted_start t); ahead = omega arith; filling = λ e. filling_first t l first; kept = λ e. refl }

-- so many cycles have at most the rows of as many that are out of bounds
cycles_most : (stamp : ℕ) (states : Context → State) (cs : List Claim) → length (cycles_of stamp states cs) ≤ suc out_last * length cs
unfolding cycles_of
cycles_most stamp states [] = omega arith
cycles_most stamp states (c ∷ cs) =
    rw (length-append, length_cycle) (omega (arith, cycles_most (suc stamp) (after_claim states c) cs, last_le c))

-- where cycles are written, their rows are counted too
pub passing_writes : {t l buf : List ℕ} {known : Recent} {first at row k : ℕ} → Filling t l buf known first at row k
    → Passing true t l buf known first at row k
passing_writes {first = first} {row = row} f =
    let many = cycles_most 1 fresh (map claim_of f.done) in
    let rows : row - first ≡ rows_of_claims (map claim_of f.done) = omega (arith, f.rows) in
    let few : row - first ≤ suc out_last * length f.done = omega (arith, rows, many, length-map f.done claim_of) in
    record {
      counted = record { done = f.done; reached = f.reached; rows = rows; few = rw f.reached.count few };
      ahead = omega (arith, f.rows);
      filling = λ e. f;
      kept = λ e. absurd (true≢false e);
    }

module _ {writes : Bool} {t l buf : List ℕ} {known : Recent} {first at row k : ℕ} (p : Passing writes t l buf known first at row k) where
  -- there are as many bytes as before
  pub length-kept : length buf ≡ length l
  length-kept = by writes refl
    where
      by : (w : Bool) → writes ≡ w → length buf ≡ length l
      by true h = filling-kept (p.filling h)
      by false h = ap length (p.kept h)

  module _ (asked : writes ≡ true → Writable t l first) where
    -- behind the last line the cycles of all of them are written, where they are to be
    pub passing_end : (n : ℕ) → told_claimed n (next_line t at) ≡ Ok None → buf ≡ pick writes (cycles_written first (list_claims t) l) l
    passing_end n e = by writes refl
      where
        by : (w : Bool) → writes ≡ w → buf ≡ pick writes (cycles_written first (list_claims t) l) l
        by true h = rw h (filling_end (asked h).lists (p.filling h) n e)
        by false h = rw h (p.kept h)

    -- a list with a line that is refused is not to be written
    pub passing_refused : (n : ℕ) {w : Refusal} → told_claimed n (next_line t at) ≡ Err w → buf ≡ pick writes (cycles_written first (list_claims t) l) l
    passing_refused n e = by writes refl
      where
        by : (w : Bool) → writes ≡ w → buf ≡ pick writes (cycles_written first (list_claims t) l) l
        by true h = absurd (filling_right (asked h).lists (p.filling h) n e)
        by false h = rw h (p.kept h)

  -- one line more, which is x, whose cycle is written where it is to be
  pub passing_next : {x : Next} {m : List ℕ} {noted : Recent} {n : ℕ} → More t at k (row - first) x n
      → (writes ≡ true → Filling t l m noted first (place_after at x) (row + n) (lines_after k x)) → (writes ≡ false → m ≡ buf)
      → Passing writes t l m noted first (place_after at x) (row + n) (lines_after k x)
  passing_next {n = n} more filled same =
      let there : row + n - first ≡ row - first + n = omega (arith, p.ahead) in
      record { counted = rw there more.counted; ahead = omega (arith, p.ahead); filling = filled; kept = λ e. same e ∙ p.kept e }

-- ---- from row 0 on the row is the count of rows

pub passing_counted : {writes : Bool} {t l buf : List ℕ} {known : Recent} {at row k : ℕ} → Passing writes t l buf known 0 at row k → Counted t at k row
passing_counted {row = row} p =
    let all : row - 0 ≡ row = omega arith in
    rw all at p.counted

pub more_counted : {t : List ℕ} {at row k n : ℕ} {x : Next} → More t at k row x n → More t at k (row - 0) x n
more_counted {row = row} more =
    let all : row - 0 ≡ row = omega arith in
    rw all more
