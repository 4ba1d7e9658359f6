-- What the checker works out as it goes from cycle to cycle.
use Rattle.std.specs.Prelude.{ℕ, zero, suc, ◌+◌, Bool, not, ◌&&◌, eqb, leb}
use Rattle.model.specs.Columns.{Cells, columns, cells_in}
use Rattle.model.specs.Cycles.{Claim}
use Rattle.model.specs.Tests.{pick, zeros}
use Rattle.model.specs.Trace.{last_of}
use Rattle.compare.specs.Same.{cycle_stands}
use Rattle.recent.specs.Notes.{Recent, recalled}

-- the first row from row i on that has a cell other than 0, and row i + n if none of the n rows has
unfoldable pub empty_from : (ℕ → Cells) → (i n : ℕ) → ℕ
empty_from r i zero = i
empty_from r i (suc n) = pick (zeros (cells_in columns (r i))) (empty_from r (suc i) n) i

-- how many of n rows stand first and have no cell but 0
abbrev pub leading_empty : (ℕ → Cells) → ℕ → ℕ
leading_empty r n = empty_from r 0 n

-- the claim has a context, and the rows from row i of n on are its cycle: behind so many cycles, and at the state that is recalled of its context
unfoldable pub cycle_next : (ℕ → Cells) → (n : ℕ) → Recent → (i cycles : ℕ) → Claim → Bool
cycle_next r n p i cycles c =
    not (eqb c.context.cn 0) && leb (i + suc (last_of c)) n && cycle_stands r i (suc cycles) (recalled r p.notes p.span c.context) c
