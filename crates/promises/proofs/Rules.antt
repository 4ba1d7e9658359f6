-- No second answer meets the contracts of `rules`.
use mathlib.Core.Path.{refl}
use Rattle.rules.specs.Kept.{numbers}
use Rattle.promises.proofs.NoSecond.{NoSecond, equation, given, answer, by}
use Rattle.rules.proofs.cells.KeptFromRow.from.Reads as from
use Rattle.rules.proofs.steps.rule1.Reads as rule1
use Rattle.rules.proofs.steps.rule2.Reads as rule2
use Rattle.rules.proofs.steps.rule3.Reads as rule3
use Rattle.rules.proofs.steps.rule4.Reads as rule4
use Rattle.rules.proofs.steps.rule5.Reads as rule5
use Rattle.rules.proofs.steps.rule6.Reads as rule6
use Rattle.rules.proofs.steps.rule26.Reads as rule26
use Rattle.rules.proofs.cycle.rule7.Reads as rule7
use Rattle.rules.proofs.cycle.rule8.Reads as rule8
use Rattle.rules.proofs.cycle.rule9.Reads as rule9
use Rattle.rules.proofs.cycle.rule10.Reads as rule10
use Rattle.rules.proofs.within.rule11.Reads as rule11
use Rattle.rules.proofs.within.rule12.Reads as rule12
use Rattle.rules.proofs.within.rule13.Reads as rule13
use Rattle.rules.proofs.within.rule14.Reads as rule14
use Rattle.rules.proofs.within.rule15.Reads as rule15
use Rattle.rules.proofs.within.rule16.Reads as rule16
use Rattle.rules.proofs.within.rule17.Reads as rule17
use Rattle.rules.proofs.within.rule18.Reads as rule18
use Rattle.rules.proofs.within.rule19.Reads as rule19
use Rattle.rules.proofs.within.rule20.Reads as rule20
use Rattle.rules.proofs.within.rule21.Reads as rule21
use Rattle.rules.proofs.within.rule22.Reads as rule22
use Rattle.rules.proofs.within.rule23.Reads as rule23
use Rattle.rules.proofs.beyond.rule24.Reads as rule24
use Rattle.rules.proofs.beyond.rule25.Reads as rule25
use Rattle.rules.proofs.first.first_broken.Reads as first-broken

-- the cells that stay in a cycle
pub one_from : NoSecond from.Post given (by numbers)
one_from = equation (λ a b. refl)

-- 1 to 6 and 26
pub one_rule1 : NoSecond rule1.Post given answer
one_rule1 = equation (λ a b. refl)

pub one_rule2 : NoSecond rule2.Post given answer
one_rule2 = equation (λ a b. refl)

pub one_rule3 : NoSecond rule3.Post given answer
one_rule3 = equation (λ a b. refl)

pub one_rule4 : NoSecond rule4.Post given answer
one_rule4 = equation (λ a b. refl)

pub one_rule5 : NoSecond rule5.Post given answer
one_rule5 = equation (λ a b. refl)

pub one_rule6 : NoSecond rule6.Post given answer
one_rule6 = equation (λ a b. refl)

pub one_rule26 : NoSecond rule26.Post given answer
one_rule26 = equation (λ a b. refl)

-- 7 to 10
pub one_rule7 : NoSecond rule7.Post given answer
one_rule7 = equation (λ a b. refl)

pub one_rule8 : NoSecond rule8.Post given answer
one_rule8 = equation (λ a b. refl)

pub one_rule9 : NoSecond rule9.Post given answer
one_rule9 = equation (λ a b. refl)

pub one_rule10 : NoSecond rule10.Post given answer
one_rule10 = equation (λ a b. refl)

-- 11 to 23
pub one_rule11 : NoSecond rule11.Post given answer
one_rule11 = equation (λ a b. refl)

pub one_rule12 : NoSecond rule12.Post given answer
one_rule12 = equation (λ a b. refl)

pub one_rule13 : NoSecond rule13.Post given answer
one_rule13 = equation (λ a b. refl)

pub one_rule14 : NoSecond rule14.Post given answer
one_rule14 = equation (λ a b. refl)

pub one_rule15 : NoSecond rule15.Post given answer
one_rule15 = equation (λ a b. refl)

pub one_rule16 : NoSecond rule16.Post given answer
one_rule16 = equation (λ a b. refl)

pub one_rule17 : NoSecond rule17.Post given answer
one_rule17 = equation (λ a b. refl)

pub one_rule18 : NoSecond rule18.Post given answer
one_rule18 = equation (λ a b. refl)

pub one_rule19 : NoSecond rule19.Post given answer
one_rule19 = equation (λ a b. refl)

pub one_rule20 : NoSecond rule20.Post given answer
one_rule20 = equation (λ a b. refl)

pub one_rule21 : NoSecond rule21.Post given answer
one_rule21 = equation (λ a b. refl)

pub one_rule22 : NoSecond rule22.Post given answer
one_rule22 = equation (λ a b. refl)

pub one_rule23 : NoSecond rule23.Post given answer
one_rule23 = equation (λ a b. refl)

-- 24 and 25
pub one_rule24 : NoSecond rule24.Post given answer
one_rule24 = equation (λ a b. refl)

pub one_rule25 : NoSecond rule25.Post given answer
one_rule25 = equation (λ a b. refl)

-- the first that a row breaks
pub one_first_broken : NoSecond first-broken.Post given answer
one_first_broken = equation (λ a b. refl)
