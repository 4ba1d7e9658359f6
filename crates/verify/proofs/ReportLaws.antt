-- The answer of `verify` to the bytes read.
use Prim.Native.Nat.{ℕ, ◌<◌, ◌≤◌}
use mathlib.Core.List.{List}
use mathlib.Core.Path.{◌≡◌}
use borrow.Author.Tests.{lt-ltb, le-ltb}
use lib.ListN.{length}
use Rattle.checker.specs.Answer.{told}
use Rattle.checker.specs.declared.Verdict.TheVariants.{Refused}
use Rattle.model.specs.Verdict.{verdict, too_many_rows}
use Rattle.refusal.specs.Refusals.{lineless}
use Rattle.verify.specs.Report.{verify_bytes, answer}

-- more bytes than are checked: refusal 10
pub answer-long : (l : List ℕ) → verify_bytes < length l → answer l ≡ Refused (lineless too_many_rows)
unfolding answer
answer-long l h = rw (lt-ltb verify_bytes (length l) h)

-- else the checker's
pub answer_checked : (l : List ℕ) → length l ≤ verify_bytes → answer l ≡ told (verdict l)
unfolding answer
answer_checked l h = rw (le-ltb verify_bytes (length l) h)
