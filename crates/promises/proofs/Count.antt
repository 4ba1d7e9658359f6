-- No second answer meets the contracts of `count`.
use mathlib.Core.Path.{refl, ap}
use Rattle.count.specs.Counts.{told_counts}
use Rattle.promises.proofs.NoSecond.{NoSecond, no_second, equation, given, answer}
use Rattle.count.proofs.starts_cycle.Reads as starts-cycle
use Rattle.count.proofs.count_row.Reads as count-row

pub one_starts_cycle : NoSecond starts-cycle.Post given answer
one_starts_cycle = equation (λ a b. refl)

pub one_count_row : NoSecond count-row.Post given answer
one_count_row = no_second _ (λ κ a v e p. ap told_counts p) (λ a b. refl)
