-- The adverse traces as bytes: the verdict on each is the judgement that its entry says.
use Prim.Native.Nat.{ℕ, ◌<◌}
use mathlib.Core.Path.{◌≡◌, ◌∙◌, ap}
use lib.ListN.{length}
use Rattle.model.specs.Adverse.{witnesses, entry}
use Rattle.model.specs.Columns.{bytes_of}
use Rattle.model.specs.Cycles.{counts}
use Rattle.model.specs.Verdict.{Judgement, verdict_by, verdict}
use Rattle.model.proofs.AdverseLaws.{witnesses_hold, witnesses_fit, witnesses_sized}
use Rattle.model.proofs.RowsVerdict.{verdict_of_rows}

-- the verdict on the bytes of an entry is its judgement
pub witnesses-verdict : (k : ℕ) → k < length witnesses → verdict (bytes_of (entry k).shown) ≡ verdict_by (entry k).judgement (counts (entry k).shown)
witnesses-verdict k h =
    let s = witnesses_sized k h in
    verdict_of_rows (entry k).shown (witnesses_fit k h) s.0 s.1
    ∙ ap (λ (j : Judgement). verdict_by j (counts (entry k).shown)) (witnesses_hold k h)
