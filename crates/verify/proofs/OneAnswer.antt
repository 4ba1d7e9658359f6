-- No second line meets the contract of what `verify` prints.
use contract.Lifetimes.{Lfts}
use borrow.Fn.Kinds.{Dens, ended_of}
use denote.Triple.Clauses.{AtExit}
use mathlib.Core.Path.{◌≡◌, sym, ◌∙◌, ap}
use Rattle.verify.specs.Report.{report}
use Rattle.verify.proofs.put_report.Kinds as kinds
use Rattle.verify.proofs.put_report.Reads as reads

-- two calls of `put_report` that were lent the same bytes leave the same line on their pages, whatever stood there
pub one_report : (κs λs : Lfts 2) (a : Dens κs kinds.ps) (b : Dens λs kinds.ps) (m n : Unit {0})
    (e : AtExit (ended_of 2 kinds.ps kinds.r) κs) (f : AtExit (ended_of 2 kinds.ps kinds.r) λs)
    → a.0.now ≡ b.0.now → reads.Post κs a m e → reads.Post λs b n f → e.1.0.now ≡ f.1.0.now
one_report κs λs a b m n e f same p q = p ∙ ap report same ∙ sym q
