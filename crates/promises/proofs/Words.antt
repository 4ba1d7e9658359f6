-- No second answer meets the contracts of `words`.
use mathlib.Core.Path.{refl}
use denote.Param.Laws.{Laws, IsCopy}
use denote.RattleType.{RattleType}
use mir.Syntax.{Dict}
use Rattle.std.specs.declared.clone.Clone as Clone
use Rattle.words.specs.declared.sums.SumCell as SumCell
use Rattle.promises.proofs.NoSecond.{NoSecond, equation, given, answer}
use Rattle.words.proofs.implies.Reads as implies
use Rattle.words.proofs.pick.Reads as pick
use Rattle.words.proofs.last_ct.Reads as last-ct
use Rattle.words.proofs.sums.U32SumCell.is_byte.Reads as is-byte
use Rattle.words.proofs.sums.U32SumCell.goes_on.Reads as goes-on
use Rattle.words.proofs.sums.WideSumCell.is_byte.Reads as is-wide-byte
use Rattle.words.proofs.sums.WideSumCell.goes_on.Reads as goes-wide-on
use Rattle.words.proofs.sums.sums_up.Reads as sums_up_lem
use Rattle.words.proofs.amounts.is_chosen.Reads as is-chosen
use Rattle.words.proofs.amounts.is_gap.Reads as is-gap
use Rattle.words.proofs.amounts.is_excess.Reads as is-excess
use Rattle.words.proofs.amounts.is_rounded.Reads as is-rounded
use Rattle.words.proofs.amounts.is_split.Reads as is-split
use Rattle.words.proofs.amounts.is_beyond.Reads as is-beyond
use Rattle.words.proofs.steps.stamp_follows.Reads as stamp-follows
use Rattle.words.proofs.steps.ct_follows.Reads as ct-follows

-- tests and choices
pub one-implies : NoSecond implies.Post given answer
one-implies = equation (λ a b. refl)

-- at any type
pub one-pick : (T : RattleType) (l : Laws T) (c : IsCopy T) (h : Clone.Ghosts T.Denot) (d : Dict) → NoSecond (pick.Post T l c h d) given answer
one-pick T l c h d = equation (λ a b. refl)

pub one_last_ct : NoSecond last-ct.Post given answer
one_last_ct = equation (λ a b. refl)

-- of the two types of cells that bytes sum up into
pub one_is_byte : NoSecond is-byte.Post given answer
one_is_byte = equation (λ a b. refl)

pub one_goes_on : NoSecond goes-on.Post given answer
one_goes_on = equation (λ a b. refl)

pub one_is_wide_byte : NoSecond is-wide-byte.Post given answer
one_is_wide_byte = equation (λ a b. refl)

pub one_goes_wide_on : NoSecond goes-wide-on.Post given answer
one_goes_wide_on = equation (λ a b. refl)

-- and at any type of cell
pub one_sums_up : (T : RattleType) (l : Laws T) (c : IsCopy T) (g : SumCell.Ghosts T.Denot) (d : Dict) (h : Clone.Ghosts T.Denot) (e : Dict)
    → NoSecond (sums_up_lem.Post T l c g d h e) given answer
one_sums_up T l c g d h e = equation (λ a b. refl)

-- the tests of amounts
pub one_is_chosen : NoSecond is-chosen.Post given answer
one_is_chosen = equation (λ a b. refl)

pub one_is_gap : NoSecond is-gap.Post given answer
one_is_gap = equation (λ a b. refl)

pub one_is_excess : NoSecond is-excess.Post given answer
one_is_excess = equation (λ a b. refl)

pub one_is_rounded : NoSecond is-rounded.Post given answer
one_is_rounded = equation (λ a b. refl)

pub one_is_split : NoSecond is-split.Post given answer
one_is_split = equation (λ a b. refl)

pub one_is_beyond : NoSecond is-beyond.Post given answer
one_is_beyond = equation (λ a b. refl)

-- the tests from row to row
pub one_stamp_follows : NoSecond stamp-follows.Post given answer
one_stamp_follows = equation (λ a b. refl)

pub one_ct_follows : NoSecond ct-follows.Post given answer
one_ct_follows = equation (λ a b. refl)
