-- `form::read_digits` meets its contract: the run of digits is long enough, or is where it stops.
use native.Mathlib.Omega.{arith}
use Rattle.long.specs.Halves.{whole}
use Rattle.form.specs.Plain.{digit_run}
use Rattle.form.proofs.StepLaws.{too_few, enough}
use Rattle.form.proofs.read_digits.Goals as goal

pub returns-then-digits-p : goal.returns-then-digits-p
returns-then-digits-p c =
    let run = c.run_digits-digits in
    let a = c.args in
    too_few a.least a.most a.t.now a.p (digit_run whole run.result) run.ensures.run (omega (arith, run.ensures.forward))

pub returns : goal.returns
returns c =
    let run = c.run_digits-digits in
    let a = c.args in
    enough a.least a.most a.t.now a.p (digit_run whole run.result) run.ensures.run (omega (arith, run.ensures.forward))
