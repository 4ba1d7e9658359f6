-- No second page meets the contracts of the calls on a page of `text`.
use Prim.Native.Nat.{ℕ}
use mathlib.Core.Path.{refl}
use mir.Syntax.{w64}
use mir.Val.{Fits}
use Rattle.promises.proofs.NoSecond.{NoSecond, no_second, equation, given, ref, shared, unseen, answer, by, first}
use Rattle.text.proofs.Page.new.Reads as new
use Rattle.text.proofs.Page.bytes.Reads as bytes-of
use Rattle.text.proofs.Page.clear.Reads as clear
use Rattle.text.proofs.Page.put_bytes.Reads as put-bytes
use Rattle.text.proofs.Page.put_decimal.Reads as put-decimal
use Rattle.text.proofs.Page.put_field.Reads as put-field
use Rattle.text.proofs.Page.put_refusal.Reads as put-refusal
use Rattle.text.proofs.Page.put_refused.Reads as put-refused

-- pages with room for any number of bytes
module _ (N : ℕ) (fits : Fits w64 N) where
  -- a page on which nothing is put, and what was put
  pub one_new : NoSecond (new.Post N fits) given answer
  one_new = equation (λ a b. refl)

  pub one_bytes : NoSecond (bytes-of.Post N fits) (shared given) (by (λ x. x.now))
  one_bytes = equation (λ a b. refl)

  pub one_clear : NoSecond (clear.Post N fits) (unseen given) first
  one_clear = equation (λ a b. refl)

  -- bytes and numbers that are put behind what stands there
  pub one_put_bytes : NoSecond (put-bytes.Post N fits) (ref (shared given)) first
  one_put_bytes = equation (λ a b. refl)

  pub one_put_decimal : NoSecond (put-decimal.Post N fits) (ref given) first
  one_put_decimal = no_second _ (λ κ a v e p. p.0) (λ a b. refl)

  pub one_put_field : NoSecond (put-field.Post N fits) (ref (shared given)) first
  one_put_field = no_second _ (λ κ a v e p. p.0) (λ a b. refl)

  -- the line of a refusal, whatever stood there
  pub one_put_refusal : NoSecond (put-refusal.Post N fits) (unseen given) first
  one_put_refusal = equation (λ a b. refl)

  pub one_put_refused : NoSecond (put-refused.Post N fits) (unseen given) first
  one_put_refused = equation (λ a b. refl)
