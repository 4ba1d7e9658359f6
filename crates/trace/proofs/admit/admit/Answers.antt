-- `trace::admit::admit` meets its contract: by the checker's answer.
use mathlib.Core.Path.{sym}
use Rattle.trace.proofs.AdmitLaws.{admitted_if_accepted, refused_if_broken, refused_if_no_trace}
use Rattle.trace.proofs.admit.admit.Goals as goal

pub returns-in-Accepted : goal.returns-in-Accepted
returns-in-Accepted c = admitted_if_accepted _ (sym c.in-Accepted.ensures)

pub returns-in-Broken : goal.returns-in-Broken
returns-in-Broken c = refused_if_broken _ (sym c.in-Broken.ensures)

pub returns-in-Refused : goal.returns-in-Refused
returns-in-Refused c = refused_if_no_trace _ (sym c.in-Refused.ensures)
