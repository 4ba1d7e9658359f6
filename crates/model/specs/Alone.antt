-- Words and gas from claims alone; and the active words of a context by the Yellow Paper.
use Rattle.std.specs.Prelude.{ℕ, ◌+◌, max, Bool, not, ◌&&◌, List, [], ◌∷◌, ◌++◌, ◌≡◌}
use Rattle.gas.specs.Gas.{words, cost}
use Rattle.gas.specs.Paper.{M, C_mem}
use Rattle.model.specs.Columns.{Cells}
use Rattle.model.specs.Cycles.{Claim}
use Rattle.model.specs.State.{Context, same_context, fresh}
use Rattle.model.specs.Tests.{pick, bit}
use Rattle.model.specs.Trace.{in_bounds, top, row_of, after_claims}

-- the claim is in bounds and of this context
unfoldable pub counted : Context → Claim → Bool
counted x c = same_context c.context x && in_bounds c

-- the greatest end that the in-bounds claims of a context have reached, 0 if there is none
unfoldable pub reached : Context → List Claim → ℕ
reached x [] = 0
reached x (c ∷ cs) = max (pick (counted x c) (top c) 0) (reached x cs)

-- the in-bounds claims of one context, in their order
unfoldable pub own_claims : Context → List Claim → List Claim
own_claims x [] = []
own_claims x (c ∷ cs) = pick (counted x c) (c ∷ own_claims x cs) (own_claims x cs)

-- row i of the cycle that a claim with this stamp has after the claims done
abbrev pub row_after : (stamp : ℕ) → (done : List Claim) → Claim → (i : ℕ) → Cells
row_after stamp done c i = row_of stamp (after_claims fresh done c.context) c i

-- what a row of the claim c, after the claims done, says of it by the claims alone: whether it is out of bounds, the bytes that its context has
-- reached with it, their cost, and the gas, which is the growth of that cost
pub record Alone (row : Cells) (done : List Claim) (c : Claim) : Type 0 where
  pub mark : row.ooob ≡ bit (not (in_bounds c))
  pub memn : row.memn ≡ reached c.context (done ++ (c ∷ []))
  pub costn : row.costn ≡ cost (words (reached c.context (done ++ (c ∷ []))))
  pub gas : cost (words (reached c.context done)) + row.gas ≡ cost (words (reached c.context (done ++ (c ∷ []))))

-- the active words of a context by the Yellow Paper, w before the claims: M for each end of each in-bounds claim of the context, one after the other
unfoldable pub paper_words : Context → ℕ → List Claim → ℕ
paper_words x w [] = w
paper_words x w (c ∷ cs) = paper_words x (pick (counted x c) (M (M w 0 c.end1) 0 c.end2) w) cs

-- and by the Yellow Paper: the words are its active words, and the gas is the growth of its C_mem
pub record ByPaper (row : Cells) (done : List Claim) (c : Claim) : Type 0 where
  pub words : words row.memn ≡ paper_words c.context 0 (done ++ (c ∷ []))
  pub gas : C_mem (paper_words c.context 0 done) + row.gas ≡ C_mem (paper_words c.context 0 (done ++ (c ∷ [])))

-- two rows that say the same of mark, words and gas
pub record SameCharge (x y : Cells) : Type 0 where
  pub mark : x.ooob ≡ y.ooob
  pub memn : x.memn ≡ y.memn
  pub costn : x.costn ≡ y.costn
  pub gas : x.gas ≡ y.gas
