-- What a trace is by what the checker and `admit` answer of it: accepted with these counts, or refused whatever it is asked.
use Prim.Native.Nat.{ℕ}
use mathlib.Core.List.{List}
use mathlib.Core.Path.{◌≡◌, refl, sym, ◌∙◌, ap}
use lib.ListN.{length}
use Rattle.std.specs.Prelude.{Ok, Err}
use Rattle.number.specs.Num.{AllBytes}
use Rattle.number.proofs.TestLaws.{clash}
use Rattle.model.specs.Columns.{rows_of}
use Rattle.model.specs.Cycles.{counts}
use Rattle.model.specs.Promises.{Accepted, empty_in, claims_in}
use Rattle.model.specs.Verdict as model
use Rattle.model.specs.Verdict.{Verdict, verdict}
use Rattle.model.proofs.ExactlyOne.{accepted_by}
use Rattle.model.proofs.InstructionLaws.{instructions_counted}
use Rattle.model.proofs.VerdictLaws.{verdict_accepted}
use Rattle.refusal.specs.Refusals.{lineless, not_accepted}
use Rattle.refusal.specs.declared.Refusal.{Refusal}
use Rattle.count.specs.Counts.{told_counts}
use Rattle.count.specs.declared.Counts.{Counts}
use Rattle.checker.specs.Answer.{told}
use Rattle.checker.specs.declared.Verdict.TheVariants as checker
use Rattle.trace.specs.Asked.{Answer, given, refused, of_accepted, admitted}
use Rattle.trace.specs.Told.{told_admitted}

module _ (l : List ℕ) where
  -- ---- from the checker's answer

  -- an accepted trace is let in, with the counts that the checker gave
  pub admitted_if_accepted : {c : Counts} → told (verdict l) ≡ checker.Accepted c → Ok c ≡ told_admitted (admitted l)
  admitted_if_accepted {c} = by (verdict l) refl
    where
      by : (v : Verdict) → verdict l ≡ v → told v ≡ checker.Accepted c → Ok c ≡ told_admitted (admitted l)
      by (model.accepted d) e h =
          let same : told_counts d ≡ c = cc in
          rw e (ap Ok (sym same ∙ ap told_counts ((verdict_accepted l d).0 e).counted))
      by (model.broken i k) e h = clash cc
      by (model.refused m) e h = clash cc

  -- one that breaks a constraint is not accepted
  pub refused_if_broken : {i k : ℕ} → told (verdict l) ≡ checker.Broken i k → Err (lineless not_accepted) ≡ told_admitted (admitted l)
  refused_if_broken {i} {k} = by (verdict l) refl
    where
      by : (v : Verdict) → verdict l ≡ v → told v ≡ checker.Broken i k → Err (lineless not_accepted) ≡ told_admitted (admitted l)
      by (model.accepted d) e h = clash cc
      by (model.broken j m) e h = rw e refl
      by (model.refused m) e h = clash cc

  -- bytes that are no trace are refused as the checker refuses them
  pub refused_if_no_trace : {w : Refusal} → told (verdict l) ≡ checker.Refused w → Err w ≡ told_admitted (admitted l)
  refused_if_no_trace {w} = by (verdict l) refl
    where
      by : (v : Verdict) → verdict l ≡ v → told v ≡ checker.Refused w → Err w ≡ told_admitted (admitted l)
      by (model.accepted d) e h = clash cc
      by (model.broken i k) e h = clash cc
      by (model.refused m) e h = rw e (ap Err cc)

  -- ---- from the answer of `admit`

  -- a trace that is let in is accepted, and these are its counts
  pub accepted_if_admitted : AllBytes l → {c : Counts} → told_admitted (admitted l) ≡ Ok c → Accepted l × (c ≡ told_counts (counts (rows_of l)))
  accepted_if_admitted bytes {c} = by (verdict l) refl
    where
      by : (v : Verdict) → verdict l ≡ v → told_admitted (of_accepted v (given (counts (rows_of l)))) ≡ Ok c
          → Accepted l × (c ≡ told_counts (counts (rows_of l)))
      by (model.accepted d) e h = (accepted_by l d bytes e, cc)
      by (model.broken i k) e h = clash cc
      by (model.refused m) e h = clash cc

  -- of any other, each question is refused as `admit` refuses it
  pub refused_if_not_admitted : {A : Type 0} {w : Refusal} → told_admitted (admitted l) ≡ Err w
      → (n : ℕ) × (w ≡ lineless n) × ((a : Answer A) → of_accepted (verdict l) a ≡ refused n)
  refused_if_not_admitted {A} {w} = by (verdict l)
    where
      by : (v : Verdict) → told_admitted (of_accepted v (given (counts (rows_of l)))) ≡ Err w
          → (n : ℕ) × (w ≡ lineless n) × ((a : Answer A) → of_accepted v a ≡ refused n)
      by (model.accepted d) h = clash cc
      by (model.broken i k) h = (not_accepted, cc, λ a. refl)
      by (model.refused m) h = (m, cc, λ a. refl)

-- ---- its counts

module _ (l : List ℕ) {c : Counts} (e : c ≡ told_counts (counts (rows_of l))) where
  -- as many instructions are counted as there are claims
  pub instructions_told : c.instructions ≡ length (claims_in l)
  instructions_told = ap (λ (x : Counts). x.instructions) e ∙ instructions_counted (rows_of l)

  -- and the empty rows
  pub empty_told : c.empty ≡ empty_in l
  unfolding counts
  empty_told = ap (λ (x : Counts). x.empty) e
