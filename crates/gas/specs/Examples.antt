-- The eleven numbers that document 01 gives under "Numbers to prove in a table".
use Rattle.std.specs.Prelude.{ℕ, List, [], ◌∷◌, ◌≡◌}
use Rattle.gas.specs.Gas.{words, cost, split}

-- an entry of the table
pub data Example : Type 0 where
  -- an end and its cost
  cost_at : ℕ → ℕ → Example
  -- a number a, and the parts of a*a: Q2, e, last byte
  split_at : ℕ → ℕ → ℕ → ℕ → Example

-- what an entry says
abbrev pub Holds : Example → Type 0
Holds (cost_at end c) = cost (words end) ≡ c
Holds (split_at a q2 e low) = split a ≡ record { q2 = q2; e = e; low = low }

-- Cost by end, and split of a*a into Q2, e, last byte.
abbrev pub examples : List Example
examples =
    cost_at 0 0 ∷ cost_at 1 3 ∷ cost_at 32 3 ∷ cost_at 33 6 ∷ cost_at 704 66 ∷ cost_at 705 70 ∷ cost_at 1024 98
    ∷ cost_at 16777215 538443776
    ∷ split_at 17 0 1 33 ∷ split_at 23 1 0 17 ∷ split_at 524288 536870912 0 0 ∷ []
