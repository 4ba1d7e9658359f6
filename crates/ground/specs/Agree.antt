-- What a vector of each kind says, in the first of its bytes, by the definitions of `number` and `gas`, and how many of a file's vectors are wrong.
use Rattle.std.specs.Prelude.{ℕ, zero, suc, ◌+◌, ◌*◌, ◌-◌, ◌/◌, ◌%◌, ◌^◌, Bool, not, ◌&&◌, List, [], ◌∷◌, ◌≡◌, eqb, ltb, length}
use Rattle.std.specs.List.{count_by}
use Rattle.std.specs.Simd.{first_chunks}
use Rattle.gas.specs.Gas.{words, cost, split}
use Rattle.ground.specs.declared.Kind.TheVariants.{Costs, Splits, Orders, Steps, Differences, Cells}
use Rattle.ground.specs.declared.Kind.{Kind}
use Rattle.number.specs.Num.{num}
use Rattle.number.specs.Tests.{bit}
use Rattle.number.specs.Whole.{bound}

-- end 4, its words 4, their cost 17
unfoldable pub costs_agree : List ℕ → ℕ → Bool
costs_agree t p = eqb (words (num t p 4)) (num t (p + 4) 4) && eqb (cost (words (num t p 4))) (num t (p + 8) 17)

-- a 4, and the parts of a*a: Q2 17, e 1, last byte 1
unfoldable pub splits_agree : List ℕ → ℕ → Bool
splits_agree t p =
    (eqb (split (num t p 4)).q2 (num t (p + 4) 17) && eqb (split (num t p 4)).e (num t (p + 21) 1))
    && eqb (split (num t p 4)).low (num t (p + 22) 1)

-- a 17, b 17, whether they are equal 1, a is below b 1, a is in bounds 1
unfoldable pub orders_agree : List ℕ → ℕ → Bool
orders_agree t p =
    (eqb (bit (eqb (num t p 17) (num t (p + 17) 17))) (num t (p + 34) 1)
    && eqb (bit (ltb (num t p 17) (num t (p + 17) 17))) (num t (p + 35) 1))
    && eqb (bit (ltb (num t p 17) bound)) (num t (p + 36) 1)

-- a 17, b 17, a byte 1, the last 17 bytes of 256*b plus the byte 17, whether a is 256*b plus the byte 1
unfoldable pub steps_agree : List ℕ → ℕ → Bool
steps_agree t p =
    eqb ((256 * num t (p + 17) 17 + num t (p + 34) 1) % 256 ^ 17) (num t (p + 35) 17)
    && eqb (bit (eqb (num t p 17) (256 * num t (p + 17) 17 + num t (p + 34) 1))) (num t (p + 52) 1)

-- a 17, n 4, a less n 17, a less 2^24 17; a difference below 0 is 0
unfoldable pub differences_agree : List ℕ → ℕ → Bool
differences_agree t p =
    eqb (num t p 17 - num t (p + 17) 4) (num t (p + 21) 17) && eqb (num t p 17 - bound) (num t (p + 38) 17)

-- cells of 1, 3, 4 and 17 bytes, and the second of them once more, in four bytes
abbrev pub widths : List ℕ
widths = 1 ∷ 3 ∷ 4 ∷ 17 ∷ []

-- the second cell is the number that stands once more in four bytes
unfoldable pub cells_agree : List ℕ → ℕ → Bool
cells_agree t p = eqb (num t (p + 1) 3) (num t (p + 25) 4)

-- whether a vector of the kind says what is so
abbrev pub agrees : Kind → List ℕ → ℕ → Bool
agrees Costs t p = costs_agree t p
agrees Splits t p = splits_agree t p
agrees Orders t p = orders_agree t p
agrees Steps t p = steps_agree t p
agrees Differences t p = differences_agree t p
agrees Cells t p = cells_agree t p

-- the bytes that a vector stands in
abbrev pub vector_bytes : ℕ
vector_bytes = 64

-- the bytes of each of a file's whole vectors
abbrev pub vectors_in : List ℕ → List (List ℕ)
vectors_in t = first_chunks vector_bytes (length t / vector_bytes) t

-- how many of these vectors are wrong, each by its own bytes
abbrev pub wrong_among : Kind → List (List ℕ) → ℕ
wrong_among k vs = count_by (λ v. not (agrees k v 0)) vs

-- how many of the first n vectors are wrong
unfoldable pub wrongs : Kind → List ℕ → ℕ → ℕ
wrongs k t zero = 0
wrongs k t (suc n) = wrongs k t n + bit (not (agrees k t (n * vector_bytes)))

-- how many whole vectors a file holds, and how many of them are wrong
pub record Tallied (k : Kind) (t : List ℕ) (vectors wrong : ℕ) : Type 0 where
  pub whole : vectors ≡ length t / vector_bytes
  pub count : wrong ≡ wrongs k t vectors
