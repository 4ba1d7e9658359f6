-- `text::put_bytes` meets its contract: what is copied stands in the place of as many bytes (`copied`).
use mathlib.Core.Path.{refl}
use native.Mathlib.Omega.{arith}
use Rattle.number.proofs.StoreLaws.{copied}
use Rattle.text.proofs.put_bytes.Goals as goal

pub returns : goal.returns
returns c = record { stored = copied _ _ _ _ _ c.copy_from_slice.ensures.after (omega arith) (omega (arith, c.requires)); after = refl }
